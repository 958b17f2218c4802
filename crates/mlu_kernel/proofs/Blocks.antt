-- The blocks that the loops take out of a slice.
use Rattle.std.proofs.Common.{◌≡◌, ℕ, List, map, ap, ◌∙◌}
use Rattle.mlu_ring.specs.Matrices.{row_at}
use Rattle.mlu_ring.proofs.Rows.{map-row_at}

-- what a packed value holds that is loaded from block i and embedded
pub block-embedded : {A B : Type 0} (f : A → B) (xs : List A) (i v n : ℕ) (block loaded : List A) (held : List B) → held ≡ map f loaded → loaded ≡ block → block ≡ row_at v xs i → v ≡ n → held ≡ row_at n (map f xs) i
block-embedded f xs i v n block loaded held embeds loads is same =
    embeds ∙ ap (map f) (loads ∙ is ∙ ap (λ k. row_at k xs i) same) ∙ map-row_at f n xs i
