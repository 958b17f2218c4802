use Rattle.std.proofs.Common.{◌≡◌, ◌*◌, take}
use Rattle.mlu_ring.specs.Tables.{pair}
use Rattle.mlu_eq.proofs.split.dot.dot.Given as goal

abbrev pub invariant-loop-g : goal.invariant-loop-g
invariant-loop-g g l = l.sum ≡ pair g.R.Additive.ring (take (4 * l.g) l.weights) l.entries

abbrev pub invariant-loop-i : goal.invariant-loop-i
invariant-loop-i g l = l.sum ≡ pair g.R.Additive.ring (take l.i l.weights) l.entries
