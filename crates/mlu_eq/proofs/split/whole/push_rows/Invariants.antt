use Rattle.std.proofs.Common.{◌*◌, length, take}
use Rattle.mlu_eq.specs.Split.{contents}
use Rattle.mlu_eq.proofs.Appended.{Appended}
use Rattle.mlu_eq.proofs.split.whole.push_rows.Given as goal

abbrev pub invariant-loop-factor : goal.invariant-loop-factor
invariant-loop-factor g l = Appended l.initial.table l.table (contents g.R.Additive.ring (take l.factor-index l.eq0) l.weights) (l.factor-index * length l.weights)
