use Rattle.std.proofs.Common.{length}
use Rattle.mlu_eq.proofs.evaluation.+eval_ext.Given as goal

abbrev pub decreases-eval_ext : goal.decreases-eval_ext
decreases-eval_ext g l = length l.point.now
