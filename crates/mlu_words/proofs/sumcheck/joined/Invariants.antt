use Rattle.std.proofs.Common.{◌≡◌, take}
use Rattle.std.specs.Prelude.{flat_map}
use Rattle.mlu_words.proofs.sumcheck.joined.Given as goal

abbrev pub invariant-loop-round : goal.invariant-loop-round
invariant-loop-round g l = l.elements.items ≡ flat_map (λ round. round) (take l.round-index l.rounds)
