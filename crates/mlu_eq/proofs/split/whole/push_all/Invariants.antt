use Rattle.std.proofs.Common.{take}
use Rattle.mlu_eq.proofs.Appended.{Appended}
use Rattle.mlu_eq.proofs.split.whole.push_all.Given as goal

abbrev pub invariant-loop-element : goal.invariant-loop-element
invariant-loop-element g l = Appended l.initial.table l.table (take l.element-index l.elements) l.element-index
