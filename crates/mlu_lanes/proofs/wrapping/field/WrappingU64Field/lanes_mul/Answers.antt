-- The product of the lanes is that of their ring.
use Rattle.mlu_lanes.specs.WrappingU64.{wrapping_ring}
use Rattle.mlu_lanes.proofs.Entrywise.{product_by_lane}
use Rattle.mlu_lanes.proofs.wrapping.field.WrappingU64Field.lanes_mul.Goals as goal

pub returns : goal.returns
returns g c = product_by_lane (wrapping_ring g.row.W) c.args.a c.args.b c.mul.result c.mul.ensures
