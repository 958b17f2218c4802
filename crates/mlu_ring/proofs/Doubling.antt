-- The table of a point from the table of its last coordinates.
use Rattle.std.proofs.Common.{◌≡◌, ℕ, zero, suc, ◌+◌, ◌^◌, ◌<◌, List, [], ◌∷◌, ◌++◌, map, length, get_or, refl, sym, ap, ◌∙◌, arith, add-zero, zero-add, suc-add, set}
use Rattle.mlu_ring.specs.Sums.{product_below}
use Rattle.std.specs.List.{range_with_len}
use Rattle.mlu_ring.specs.Ring.{Ring, RingLaws}
use Rattle.mlu_ring.specs.Tables.{weight, weights}
use Rattle.mlu_ring.proofs.Rings.{product_one}
use Rattle.mlu_ring.proofs.SumsBelow.{map_from}
use Rattle.mlu_ring.proofs.Values.{weight-low, weight-high}

-- a list by its entries
pub map_by_index : {X : Type 0} (f : X → X) (xs : List X) (ys : List X) → length ys ≡ length xs → ((k : ℕ) (d : X) → k < length xs → get_or ys k d ≡ f (get_or xs k d)) → ys ≡ map f xs
map_by_index f [] [] h at = refl
map_by_index f [] (y ∷ ys) h at = absurd (omega arith)
map_by_index f (x ∷ xs) [] h at = absurd (omega arith)
map_by_index f (x ∷ xs) (y ∷ ys) h at =
    let first : y ≡ f x = at 0 x (omega arith) in
    let rest : ys ≡ map f xs = map_by_index f xs ys (omega arith) (λ k d q. at (suc k) d (omega arith)) in
    cc (first, rest)

pub map_range-add : {X : Type 0} (f : ℕ → X) (a m n : ℕ) → map f (range_with_len a (m + n)) ≡ map f (range_with_len a m) ++ map f (range_with_len (a + m) n)
map_range-add f a zero n = rw (zero-add, add-zero) refl
map_range-add f a (suc m) n =
    let next : (a + 1) + m ≡ a + suc m = omega arith in
    rw suc-add (ap (λ l. f a ∷ l) (map_range-add f (a + 1) m n ∙ ap (λ k. map f (range_with_len (a + 1) m) ++ map f (range_with_len k n)) next))

pub map_twice : {X Y Z : Type 0} (f : Y → Z) (g : X → Y) (h : X → Z) → ((x : X) → f (g x) ≡ h x) → (xs : List X) → map f (map g xs) ≡ map h xs
map_twice f g h same [] = refl
map_twice f g h same (x ∷ xs) =
    let first = same x in
    let rest = map_twice f g h same xs in
    cc (first, rest)

module _ {R : Type 0} (ring : Ring R) (laws : RingLaws ring) where
  infixl 50 ◌⊕◌
  infixl 50 ◌⊖◌
  infixl 60 ◌⊗◌
  open ring use {sum as ◌⊕◌, product as ◌⊗◌, minus as ◌⊖◌, zero as 𝟘, one as 𝟙, negation as neg}

  pub weights-none : weights ring [] ≡ 𝟙 ∷ []
  unfolding weights weight product_below
  weights-none = refl

  pub weights-first : (c : R) (p : List R) → weights ring (c ∷ p) ≡ map (λ w. (𝟙 ⊖ c) ⊗ w) (weights ring p) ++ map (λ w. c ⊗ w) (weights ring p)
  unfolding weights
  weights-first c p =
      let m = 2 ^ length p in
      let f = weight ring (c ∷ p) in
      let doubled : 2 ^ suc (length p) ≡ 2 ^ length p + 2 ^ length p = omega arith in
      let low : map f (range_with_len 0 m) ≡ map (λ w. (𝟙 ⊖ c) ⊗ w) (map (weight ring p) (range_with_len 0 m)) =
      map_from 0 0 m f (λ x. (𝟙 ⊖ c) ⊗ weight ring p x) (λ k h. simp zero-add (weight-low ring c p k h))
      ∙ sym (map_twice (λ w. (𝟙 ⊖ c) ⊗ w) (weight ring p) (λ x. (𝟙 ⊖ c) ⊗ weight ring p x) (λ x. refl) (range_with_len 0 m)) in
      let high : map f (range_with_len (0 + m) m) ≡ map (λ w. c ⊗ w) (map (weight ring p) (range_with_len 0 m)) =
      map_from (0 + m) 0 m f (λ x. c ⊗ weight ring p x) (λ k h. simp zero-add (weight-high ring c p k h))
      ∙ sym (map_twice (λ w. c ⊗ w) (weight ring p) (λ x. c ⊗ weight ring p x) (λ x. refl) (range_with_len 0 m)) in
      ap (λ k. map f (range_with_len 0 k)) doubled
      ∙ map_range-add f 0 m m
      ∙ ap (λ l. l ++ map f (range_with_len (0 + m) m)) low
      ∙ ap (λ l. map (λ w. (𝟙 ⊖ c) ⊗ w) (map (weight ring p) (range_with_len 0 m)) ++ l) high

  pub table-none : (s : R) (out p : List R) → length p ≡ 0 → length out ≡ 2 ^ length p → set out 0 s ≡ map (λ w. s ⊗ w) (weights ring p)
  table-none s [] [] h k = absurd (omega arith)
  table-none s (x ∷ []) [] h k = rw weights-none (ap (λ t. t ∷ []) (sym (product_one ring laws s)))
  table-none s (x ∷ y ∷ more) [] h k = absurd (omega arith)
  table-none s out (c ∷ p) h k = absurd (omega arith)
