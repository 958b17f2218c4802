-- The product of the lane is that of its ring, and the lane of the factor is the element.
use Rattle.std.proofs.Common.{◌∙◌, ap, sym}
use Rattle.mlu_lanes.specs.BabyBear.{baby_bear_ring}
use Rattle.mlu_lanes.specs.LaneRing.{packed_of, lanes_are_lists, lane_ring}
use Rattle.mlu_lanes.proofs.Entrywise.{product_by_lane}
use Rattle.mlu_ext.specs.Quartic.{quartic_ring}
use Rattle.mlu_ext.proofs.quartic.field.QuarticExtensionBabyBearField.lanes_scale.Goals as goal

pub returns : goal.returns
returns g c =
    let ring = quartic_ring (baby_bear_ring g.row.W) in
    product_by_lane ring c.args.p c.splat.result c.mul.result c.mul.ensures
    ∙ ap ((lane_ring 1 ring).product c.args.p) (sym ((lanes_are_lists 1 ring.zero).whole-parts c.splat.result) ∙ ap (packed_of 1 ring.zero) c.splat.ensures)
