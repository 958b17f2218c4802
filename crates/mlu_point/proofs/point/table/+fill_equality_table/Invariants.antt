use Rattle.std.proofs.Common.{length}
use Rattle.mlu_point.proofs.point.table.+fill_equality_table.Given as goal

abbrev pub decreases-fill_equality_table : goal.decreases-fill_equality_table
decreases-fill_equality_table g l = length l.coords.now
