use Rattle.std.proofs.Common.{◌≡◌, ◌++◌, map, take, drop}
use Rattle.mlu_ring.proofs.place_by_place.clear.Given as goal

abbrev pub invariant-loop-place : goal.invariant-loop-place
invariant-loop-place g l = l.out ≡ map (λ x. g.T.Additive.ring.zero) (take l.place-index l.initial.out) ++ drop l.place-index l.initial.out
