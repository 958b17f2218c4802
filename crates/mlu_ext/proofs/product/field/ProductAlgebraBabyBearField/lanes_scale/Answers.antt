-- The product of the one lane is that of its ring, and the lane of the factor is the element.
use Rattle.std.proofs.Common.{◌∙◌, ap, sym}
use Rattle.mlu_lanes.specs.BabyBear.{baby_bear_ring}
use Rattle.mlu_lanes.specs.LaneRing.{packed_of, lanes_are_lists, lane_ring}
use Rattle.mlu_ext.specs.Product.{product_ring}
use Rattle.mlu_ext.proofs.ProductLanes.{product-of_one_lane}
use Rattle.mlu_ext.proofs.product.field.ProductAlgebraBabyBearField.lanes_scale.Goals as goal

pub returns : goal.returns
returns g c =
    let base = baby_bear_ring g.row.W in
    let ring = product_ring g.row.D base in
    product-of_one_lane g.row.D base c.args.p c.splat.result c.mul.result c.mul.ensures
    ∙ ap ((lane_ring 1 ring).product c.args.p) (sym ((lanes_are_lists 1 ring.zero).whole-parts c.splat.result) ∙ ap (packed_of 1 ring.zero) c.splat.ensures)
