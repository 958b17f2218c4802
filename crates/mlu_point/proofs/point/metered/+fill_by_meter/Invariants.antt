use Rattle.std.proofs.Common.{length}
use Rattle.mlu_point.proofs.point.metered.+fill_by_meter.Given as goal

abbrev pub decreases-fill_by_meter : goal.decreases-fill_by_meter
decreases-fill_by_meter g l = length l.coords.now
