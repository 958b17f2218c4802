use Rattle.std.proofs.Common.{◌∙◌, ap}
use Rattle.std.proofs.lemmas.List.{take_all}
use Rattle.mlu_ring.specs.Lanes.{logical}
use Rattle.mlu_ring.specs.Tables.{pair}
use Rattle.mlu_kernel.proofs.LaneDots.{no_weight, one_more_weight}
use Rattle.mlu_eq.proofs.split.dot.group_dot.Goals as goal

pub loop-i-init : goal.loop-i-init
loop-i-init g c =
    let ext = g.EF.ExtensionPacking.PackedFieldExtension in
    let met = g.met.EF.ExtensionPacking.PackedFieldExtension in
    no_weight g.EF.ExtensionPacking.Additive.ring g.EF.Additive.ring g.met.EF.Additive.laws ext.ext_lanes ext.of_ext_lanes g.F.Packing.PackedValue.WIDTH met.lanes_are met.lane_by_lane
    c.ZERO-sum.result c.args.entries.now (c.ZERO-sum.ensures ∙ g.met.EF.ExtensionPacking.Additive.zero_is)

pub loop-i-preserved : goal.loop-i-preserved
loop-i-preserved g c =
    let ext = g.EF.ExtensionPacking.PackedFieldExtension in
    let met = g.met.EF.ExtensionPacking.PackedFieldExtension in
    let group = c.from_ext_slice-group.ensures ∙ c.row_of.ensures.exact g.F.Packing.PackedValue.WIDTH c.requires in
    one_more_weight g.EF.ExtensionPacking.Additive.ring g.EF.Additive.ring g.met.EF.Additive.laws ext.ext_lanes ext.of_ext_lanes g.F.Packing.PackedValue.WIDTH met.lanes_are met.lane_by_lane
    c.loop-i.sum c.index-weights-i.result c.from_ext_slice-group.result c.mul.result c.add-sum.result c.args.weights.now c.args.entries.now c.loop-i.i
    c.loop-i-test.true c.index-weights-i.is group (g.met.EF.ExtensionPacking.PrimeCharacteristicRing.multiplies _ _ _ c.mul.ensures)
    (g.met.EF.ExtensionPacking.Additive.adds _ _ _ c.add-sum.ensures) c.loop-i.invariant

pub returns : goal.returns
returns g c =
    let lanes = g.EF.ExtensionPacking.PackedFieldExtension.ext_lanes in
    c.loop-i.invariant ∙ ap (λ ps. pair g.EF.Additive.ring (logical lanes ps) c.args.entries.now) (take_all c.loop-i.i c.args.weights.now c.loop-i-test.false)
