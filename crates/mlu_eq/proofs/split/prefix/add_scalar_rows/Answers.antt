use Rattle.std.proofs.Common.{◌∷◌, [], ◌∙◌, map, length, refl, ap, sym, arith}
use Rattle.std.proofs.lemmas.List.{get_or_default, length-map, take_all}
use Rattle.mlu_ring.proofs.Pairs.{read-map}
use Rattle.mlu_kernel.specs.Kernels.{plus_rows}
use Rattle.mlu_kernel.proofs.PlusRows.{plus_rows-none, plus_rows-take_more}
use Rattle.mlu_eq.proofs.RowsMapped.{row-map}
use Rattle.mlu_eq.proofs.split.prefix.add_scalar_rows.Goals as goal

pub loop-i-init : goal.loop-i-init
loop-i-init g c = sym (plus_rows-none g.EF.Additive.ring g.met.EF.Additive.laws c.args.out.now [] (map g.EF.Algebra.embed c.args.rows.now) (omega arith))

pub loop-i-preserved : goal.loop-i-preserved
loop-i-preserved g c =
    let ring = g.EF.Additive.ring in
    let embed = g.EF.Algebra.embed in
    let times = ring.product c.args.factor in
    let r = length c.args.out.now in
    let x = c.index-weights-i.result in
    let long = length-map c.args.weights.now (ring.product c.args.factor) in
    let multiplied = g.met.EF.PrimeCharacteristicRing.multiplies c.args.factor x c.mul.result c.mul.ensures in
    c.add_scalar_row.ensures
    ∙ ap (λ row. plus_rows ring c.loop-i.out (c.mul.result ∷ []) row) (row-map embed c.args.rows.now c.row_of.result.now r c.loop-i.i (c.row_of.ensures.exact r c.requires))
    ∙ plus_rows-take_more ring g.met.EF.Additive.laws c.args.out.now (map times c.args.weights.now) (map embed c.args.rows.now) c.loop-i.out c.loop-i.i r c.mul.result
    (omega (arith, long, c.loop-i-test.true)) refl
    (multiplied ∙ read-map times c.args.weights.now c.loop-i.i x c.index-weights-i.is ∙ get_or_default (map times c.args.weights.now) c.loop-i.i (times x) c.mul.result (omega (arith, long, c.loop-i-test.true)))
    c.loop-i.invariant

pub returns : goal.returns
returns g c =
    let ring = g.EF.Additive.ring in
    let w = map (ring.product c.args.factor) c.args.weights.now in
    let long = length-map c.args.weights.now (ring.product c.args.factor) in
    c.loop-i.invariant
    ∙ ap (λ v. plus_rows ring c.args.out.now v (map g.EF.Algebra.embed c.args.rows.now)) (take_all c.loop-i.i w (omega (arith, long, c.loop-i-test.false)))
