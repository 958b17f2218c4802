use Rattle.std.proofs.Common.{◌*◌, [], ◌∙◌, map, take, drop, length, refl, ap, sym, arith}
use Rattle.std.proofs.lemmas.List.{take_all}
use Rattle.mlu_ring.specs.Lanes.{logical}
use Rattle.mlu_kernel.specs.Kernels.{plus_rows}
use Rattle.mlu_kernel.proofs.PlusRows.{plus_rows-none, rows_more}
use Rattle.mlu_eq.proofs.RowsMapped.{row-map}
use Rattle.mlu_eq.proofs.split.prefix.add_lane_rows.Goals as goal

pub loop-i-init : goal.loop-i-init
loop-i-init g c = sym (plus_rows-none g.EF.Additive.ring g.met.EF.Additive.laws c.args.out.now [] (map g.EF.Algebra.embed c.args.rows.now) (omega arith))

pub loop-i-preserved : goal.loop-i-preserved
loop-i-preserved g c =
    let ring = g.EF.Additive.ring in
    let embed = g.EF.Algebra.embed in
    let n = g.F.Packing.PackedValue.WIDTH in
    let ext = g.EF.ExtensionPacking.PackedFieldExtension in
    let met = g.met.EF.ExtensionPacking.PackedFieldExtension in
    let old = c.args.out.now in
    let r = n * length old in
    c.add_group_rows.ensures
    ∙ ap (λ rows. plus_rows ring c.loop-i.out (ext.ext_lanes c.scale-scaled.result) rows) (row-map embed c.args.rows.now c.row_of.result.now r c.loop-i.i (c.row_of.ensures.exact r c.requires))
    ∙ ap (λ p. plus_rows ring c.loop-i.out (ext.ext_lanes p) (take r (drop (c.loop-i.i * r) (map embed c.args.rows.now)))) c.scale-scaled.ensures
    ∙ rows_more g.EF.ExtensionPacking.Additive.ring ring g.met.EF.Additive.laws ext.ext_lanes ext.of_ext_lanes n met.lanes_are met.lane_by_lane
    c.args.weights.now old (map embed c.args.rows.now) c.loop-i.out c.loop-i.i r c.args.factor c.index-weights-i.result (g.EF.ExtensionPacking.Algebra-1.embed c.args.factor)
    c.loop-i-test.true refl c.index-weights-i.is (met.embeds_element c.args.factor) c.loop-i.invariant

pub returns : goal.returns
returns g c =
    let ring = g.EF.Additive.ring in
    let lanes = g.EF.ExtensionPacking.PackedFieldExtension.ext_lanes in
    c.loop-i.invariant
    ∙ ap (λ ps. plus_rows ring c.args.out.now (map (ring.product c.args.factor) (logical lanes ps)) (map g.EF.Algebra.embed c.args.rows.now)) (take_all c.loop-i.i c.args.weights.now c.loop-i-test.false)
