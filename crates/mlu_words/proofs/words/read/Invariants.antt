use Rattle.std.proofs.Common.{◌≡◌, map}
use Rattle.std.specs.List.{range_with_len}
use Rattle.mlu_ring.specs.Matrices.{row_at}
use Rattle.mlu_words.proofs.words.read.Given as goal

abbrev pub invariant-loop-j : goal.invariant-loop-j
invariant-loop-j g l =
    let coding = g.T.Words.coding in
    l.elements.items ≡ map (λ j. coding.element (row_at coding.width l.words j)) (range_with_len 0 l.j)
