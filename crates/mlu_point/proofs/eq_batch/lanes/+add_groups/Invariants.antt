use Rattle.std.proofs.Common.{length}
use Rattle.mlu_point.proofs.eq_batch.lanes.+add_groups.Given as goal

abbrev pub decreases-add_groups : goal.decreases-add_groups
decreases-add_groups g l = length l.evals.values.now
