-- The lanes of packed values from one lane of the first of them on.
use Rattle.std.proofs.Common.{◌≡◌, ℕ, zero, suc, ◌+◌, ◌<◌, List, [], ◌∷◌, ◌++◌, length, get_or, drop, refl, ap, ◌∙◌, sym, arith, add-one}
use Rattle.std.specs.List.{flat_map}

-- from place i of a list that others follow
drop-inside : {A : Type 0} (xs ys : List A) (i : ℕ) (x : A) → i < length xs → x ≡ get_or xs i x → drop i (xs ++ ys) ≡ x ∷ drop (suc i) (xs ++ ys)
drop-inside [] ys i x h e = absurd (omega arith)
drop-inside (y ∷ xs) ys zero x h e = ap (λ z. z ∷ xs ++ ys) (sym e)
drop-inside (y ∷ xs) ys (suc i) x h e = drop-inside xs ys i x (omega arith) e

drop-past : {A : Type 0} (xs ys : List A) (n : ℕ) → n ≡ length xs → drop n (xs ++ ys) ≡ drop 0 ys
drop-past [] ys zero h = refl
drop-past [] ys (suc n) h = absurd (omega arith)
drop-past (x ∷ xs) ys zero h = absurd (omega arith)
drop-past (x ∷ xs) ys (suc n) h = drop-past xs ys n (omega arith)

module _ {P V : Type 0} (lanes : P → List V) where
  -- the next lane stands in the same value
  pub lanes_left-same : (all : List P) (p : P) (ps : List P) (i : ℕ) (x : V) → all ≡ p ∷ ps → i + 1 < length (lanes p) → x ≡ get_or (lanes p) i x → drop i (flat_map lanes all) ≡ x ∷ drop (i + 1) (flat_map lanes all)
  lanes_left-same all p ps i x is h e = rw (is, add-one) (drop-inside (lanes p) (flat_map lanes ps) i x (omega arith) e)

  -- the next lane is the first of the next value
  pub lanes_left-next : (all : List P) (p : P) (ps : List P) (i : ℕ) (x : V) → all ≡ p ∷ ps → i + 1 ≡ length (lanes p) → x ≡ get_or (lanes p) i x → drop i (flat_map lanes all) ≡ x ∷ drop 0 (flat_map lanes ps)
  lanes_left-next all p ps i x is h e =
      rw is (drop-inside (lanes p) (flat_map lanes ps) i x (omega arith) e ∙ ap (λ l. x ∷ l) (drop-past (lanes p) (flat_map lanes ps) (suc i) (omega arith)))
