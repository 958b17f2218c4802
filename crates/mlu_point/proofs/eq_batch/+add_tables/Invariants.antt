use Rattle.std.proofs.Common.{length}
use Rattle.mlu_point.proofs.eq_batch.+add_tables.Given as goal

abbrev pub decreases-add_tables : goal.decreases-add_tables
decreases-add_tables g l = length l.evals.values.now
