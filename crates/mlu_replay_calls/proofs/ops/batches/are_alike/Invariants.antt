use Rattle.std.proofs.Common.{◌≡◌, ℕ, ◌<◌, [], length, get_or}
use Rattle.mlu_replay_calls.proofs.ops.batches.are_alike.Given as goal

abbrev pub invariant-loop-point : goal.invariant-loop-point
invariant-loop-point g l = (k : ℕ) → k < l.point-index → length (get_or l.points k []) ≡ length (get_or l.points 0 [])
