use Rattle.std.proofs.Common.{◌≡◌, ◌++◌, map, take, drop}
use Rattle.mlu_ring.proofs.place_by_place.negate_each.Given as goal

abbrev pub invariant-loop-x : goal.invariant-loop-x
invariant-loop-x g l = l.out ≡ map g.R.Additive.ring.negation (take l.x-index l.initial.out) ++ drop l.x-index l.initial.out
