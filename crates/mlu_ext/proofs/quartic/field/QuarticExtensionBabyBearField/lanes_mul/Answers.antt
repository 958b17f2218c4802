-- The product of the lane is that of its ring.
use Rattle.mlu_lanes.specs.BabyBear.{baby_bear_ring}
use Rattle.mlu_lanes.proofs.Entrywise.{product_by_lane}
use Rattle.mlu_ext.specs.Quartic.{quartic_ring}
use Rattle.mlu_ext.proofs.quartic.field.QuarticExtensionBabyBearField.lanes_mul.Goals as goal

pub returns : goal.returns
returns g c = product_by_lane (quartic_ring (baby_bear_ring g.row.W)) c.args.a c.args.b c.mul.result c.mul.ensures
