use Rattle.std.proofs.Common.{◌≡◌, map}
use Rattle.std.specs.List.{range_with_len}
use Rattle.mlu_ring.specs.Matrices.{row_at}
use Rattle.mlu_words.proofs.sumcheck.in_rounds.Given as goal

abbrev pub invariant-loop-i : goal.invariant-loop-i
invariant-loop-i g l = l.rounds.items ≡ map (row_at 3 l.elements) (range_with_len 0 l.i)
