use Rattle.std.proofs.Common.{length}
use Rattle.multilinear_util.proofs.poly.tables.+append_table.Given as goal

abbrev pub decreases-append_table : goal.decreases-append_table
decreases-append_table g l = length l.point.now
