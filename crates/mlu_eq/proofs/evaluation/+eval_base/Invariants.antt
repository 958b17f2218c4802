use Rattle.std.proofs.Common.{length}
use Rattle.mlu_eq.proofs.evaluation.+eval_base.Given as goal

abbrev pub decreases-eval_base : goal.decreases-eval_base
decreases-eval_base g l = length l.point.now
