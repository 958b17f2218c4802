use Rattle.std.proofs.Common.{◌≡◌, ◌-◌, ◌*◌, ◌/◌, ◌∙◌, length, ap, arith}
use Rattle.mlu_ring.proofs.Rows.{row-width}
use Rattle.mlu_eq.proofs.Accumulations.{rows_step, rows_whole}
use Rattle.mlu_eq.proofs.split.accumulate.accumulate_into.Goals as goal

pub loop-j-preserved : goal.loop-j-preserved
loop-j-preserved g c =
    let w = c.args.eq1.now.weights in
    let m = length c.args.eq0.now in
    let x = c.index-eq0-j.result in
    let j = c.loop-j.j in
    let row = c.row_range-row in
    let width : length c.loop-j.out / m ≡ length w = row-width (length c.loop-j.out) m (length w) j c.loop-j-test.true (c.loop-j.auto.out ∙ c.requires) in
    rows_step g.EF.Additive.ring g.met.EF.Additive.laws c.args.eq0.now w c.args.out.now c.args.scale c.requires c.loop-j.out c.add_weights.new.row x c.mul.result
    j row.result.start (row.result.end - row.result.start) c.loop-j-test.true c.index-eq0-j.is (g.met.EF.PrimeCharacteristicRing.multiplies c.args.scale x c.mul.result c.mul.ensures)
    (row.ensures.start ∙ ap (λ k. j * k) width) (omega (arith, row.ensures.start, row.ensures.end, width)) c.loop-j.invariant c.add_weights.ensures

pub returns : goal.returns
returns g c =
    rows_whole g.EF.Additive.ring g.met.EF.Additive.laws c.args.eq0.now c.args.eq1.now.weights c.args.out.now c.args.scale c.requires
    c.loop-j.out c.loop-j.j (omega arith) c.loop-j.invariant
