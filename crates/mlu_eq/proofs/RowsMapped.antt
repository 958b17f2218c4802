-- Rows of a list, mapped.
use Rattle.std.proofs.Common.{◌≡◌, ℕ, List, map, ap, ◌∙◌}
use Rattle.mlu_ring.specs.Matrices.{row_at}
use Rattle.mlu_ring.proofs.Rows.{map-row_at}

pub row-map : {A B : Type 0} (f : A → B) (xs ys : List A) (n j : ℕ) → ys ≡ row_at n xs j → map f ys ≡ row_at n (map f xs) j
row-map f xs ys n j is = ap (map f) is ∙ map-row_at f n xs j
