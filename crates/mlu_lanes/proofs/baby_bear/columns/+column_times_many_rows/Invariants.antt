use Rattle.std.proofs.Common.{length}
use Rattle.mlu_lanes.proofs.baby_bear.columns.+column_times_many_rows.Given as goal

abbrev pub decreases-column_times_many_rows : goal.decreases-column_times_many_rows
decreases-column_times_many_rows g l = length l.l.now
