use Rattle.std.proofs.Common.{map, take}
use Rattle.mlu_eq.proofs.Appended.{Appended}
use Rattle.mlu_eq.proofs.split.whole.push_row.Given as goal

abbrev pub invariant-loop-weight : goal.invariant-loop-weight
invariant-loop-weight g l = Appended l.initial.table l.table (map (g.R.Additive.ring.product l.factor) (take l.weight-index l.weights)) l.weight-index
