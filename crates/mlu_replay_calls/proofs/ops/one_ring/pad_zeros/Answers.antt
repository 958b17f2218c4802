use Rattle.std.proofs.Common.{arith}
use Rattle.mlu_replay_calls.proofs.Powers.{grown}
use Rattle.mlu_replay_calls.proofs.ops.one_ring.pad_zeros.Goals as goal

pub pad_zeros-requires-clause-grows : goal.pad_zeros-requires-clause-grows
pad_zeros-requires-clause-grows g c = grown _ _ _ c.num_variables.ensures.value (omega arith)
