use Rattle.std.proofs.Common.{◌-◌, ◌≤◌, vec_len}
use Rattle.mlu_sweep.proofs.draws.elements.Given as goal

abbrev pub invariant-loop-values : goal.invariant-loop-values
invariant-loop-values g l = vec_len l.values ≤ l.n

abbrev pub decreases-loop-values : goal.decreases-loop-values
decreases-loop-values g l = l.n - vec_len l.values
