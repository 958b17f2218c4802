use Rattle.std.proofs.Common.{◌≡◌, take}
use Rattle.mlu_ring.specs.Tables.{pair}
use Rattle.mlu_ring.proofs.field.Field.dot.Given as goal

abbrev pub invariant-loop-i : goal.invariant-loop-i
invariant-loop-i g l = l.sum ≡ pair g.Self.Additive.ring (take l.i l.l) l.r
