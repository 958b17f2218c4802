use Rattle.std.proofs.Common.{◌≡◌, ◌++◌, take, drop}
use Rattle.std.specs.Simd.Lanes.{zip2}
use Rattle.mlu_ring.proofs.place_by_place.sub_each.Given as goal

abbrev pub invariant-loop-i : goal.invariant-loop-i
invariant-loop-i g l = l.out ≡ zip2 g.R.Additive.ring.minus (take l.i l.initial.out) (take l.i l.b) ++ drop l.i l.initial.out
