use Rattle.std.proofs.Common.{arith}
use Rattle.mlu_replay_calls.proofs.Powers.{part_with_lanes}
use Rattle.mlu_replay_calls.proofs.sizes.test_lanes.Goals as goal

pub returns : goal.returns
returns g c = λ _. part_with_lanes _ _ _ _ _ g.met.F.Packing.PackedValue.width_is c.in_ok-left.ensures (omega arith)
