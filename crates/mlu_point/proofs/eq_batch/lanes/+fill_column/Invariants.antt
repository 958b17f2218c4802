use Rattle.std.proofs.Common.{length}
use Rattle.mlu_point.proofs.eq_batch.lanes.+fill_column.Given as goal

abbrev pub decreases-fill_column : goal.decreases-fill_column
decreases-fill_column g l = length l.evals.values.now
