use Rattle.std.proofs.Common.{◌≡◌, ◌*◌, map, take}
use Rattle.mlu_ring.specs.Tables.{pair}
use Rattle.mlu_eq.proofs.split.dot.base_dot.Given as goal

abbrev pub invariant-loop-g : goal.invariant-loop-g
invariant-loop-g g l = l.sum ≡ pair g.EF.Additive.ring (take (4 * l.g) l.weights) (map g.EF.Algebra.embed l.entries)

abbrev pub invariant-loop-i : goal.invariant-loop-i
invariant-loop-i g l = l.sum ≡ pair g.EF.Additive.ring (take l.i l.weights) (map g.EF.Algebra.embed l.entries)
