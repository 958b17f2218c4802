-- The product of the one lane is that of its ring.
use Rattle.mlu_lanes.specs.BabyBear.{baby_bear_ring}
use Rattle.mlu_ext.proofs.ProductLanes.{product-of_one_lane}
use Rattle.mlu_ext.proofs.product.field.ProductAlgebraBabyBearField.lanes_times_fixed.Goals as goal

pub returns : goal.returns
returns g c = product-of_one_lane g.row.D (baby_bear_ring g.row.W) c.args.p c.args.factor c.mul.result c.mul.ensures
