use Rattle.std.proofs.Common.{◌≡◌, ◌∙◌, List, [], ◌∷◌, length, get_or, refl, arith}
use Rattle.mlu_ring.specs.Matrices.{dimension}
use Rattle.mlu_replay_calls.proofs.ops.batches.are_alike.Goals as goal

dimension-first : {R : Type 0} (points : List (List R)) → length (get_or points 0 []) ≡ dimension points
dimension-first [] = refl
dimension-first (p ∷ points) = refl

pub returns : goal.returns
returns g c = λ _ k h. c.loop-point.invariant k (omega (arith, h)) ∙ dimension-first c.args.points.now
