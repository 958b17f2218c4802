-- Elements that are read one after the other.
use Rattle.std.proofs.Common.{◌≡◌, ℕ, ◌+◌, List, [], ◌∷◌, ◌++◌, ◌∙◌, map, ap, sym, zero-add}
use Rattle.std.specs.List.{range_with_len}
use Rattle.std.proofs.lemmas.List.FromFn.{map-range_with_len_more}

-- the first j of them, and the next
pub one_more : {X : Type 0} (f : ℕ → X) (j : ℕ) (xs ys : List X) (x : X) → xs ≡ map f (range_with_len 0 j) → x ≡ f j → ys ≡ xs ++ (x ∷ []) → ys ≡ map f (range_with_len 0 (j + 1))
one_more f j xs ys x before next is =
    is
    ∙ ap (λ zs. zs ++ (x ∷ [])) before
    ∙ ap (λ z. map f (range_with_len 0 j) ++ (z ∷ [])) next
    ∙ sym (map-range_with_len_more f 0 j j (zero-add j))
