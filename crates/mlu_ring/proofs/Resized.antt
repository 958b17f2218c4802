-- A list cut or continued to a length.
use Rattle.std.specs.Prelude.{◌≡◌, ℕ, List, [], ◌∷◌, length}
use Rattle.std.proofs.Common.{zero, suc, ap, refl, arith}

-- n elements: those of the list, and then d
abbrev pub resized : {A : Type 0} → A → ℕ → List A → List A
resized d zero xs = []
resized d (suc n) [] = d ∷ resized d n []
resized d (suc n) (x ∷ xs) = x ∷ resized d n xs

pub length-resized : {A : Type 0} (d : A) (n : ℕ) (xs : List A) → length (resized d n xs) ≡ n
length-resized d zero xs = refl
length-resized d (suc n) [] = ap suc (length-resized d n [])
length-resized d (suc n) (x ∷ xs) = ap suc (length-resized d n xs)

pub resized-whole : {A : Type 0} (d : A) (n : ℕ) (xs : List A) → length xs ≡ n → resized d n xs ≡ xs
resized-whole d zero [] h = refl
resized-whole d (suc n) [] h = absurd (omega arith)
resized-whole d zero (x ∷ xs) h = absurd (omega arith)
resized-whole d (suc n) (x ∷ xs) h = ap (λ ys. x ∷ ys) (resized-whole d n xs (omega arith))
