-- The powers of an element: their squares, and their table twice as long.
use Rattle.std.proofs.Common.{◌≡◌, ℕ, suc, ◌+◌, ◌^◌, [], ◌∷◌, ◌++◌, map, length, refl, sym, ap, ◌∙◌, arith, zero-add}
use Rattle.std.specs.List.{range_with_len}
use Rattle.std.proofs.lemmas.List.FromFn.{length-map-range_with_len}
use Rattle.mlu_ring.specs.Ring.{Ring, RingLaws}
use Rattle.mlu_ring.specs.Tables.{power}
use Rattle.mlu_point.specs.Powers.{powers_below}
use Rattle.mlu_ring.proofs.Rings.{sum_product, product_one, product_negation, negation_product, sum_left_comm}
use Rattle.mlu_ring.proofs.SumsBelow.{map_from}
use Rattle.mlu_ring.proofs.Doubling.{map_range-add, map_twice}
use Rattle.mlu_ring.proofs.Univariate.{power-add}

module _ {R : Type 0} (ring : Ring R) (laws : RingLaws ring) where
  infixl 50 ◌⊕◌
  infixl 50 ◌⊖◌
  infixl 60 ◌⊗◌
  open ring use {sum as ◌⊕◌, product as ◌⊗◌, minus as ◌⊖◌, zero as 𝟘, one as 𝟙}

  -- the square of a power of two
  pub power-doubled : (y p r : R) (k : ℕ) → p ≡ power ring y (2 ^ k) → r ≡ p ⊗ p → r ≡ power ring y (2 ^ (k + 1))
  power-doubled y p r k is made =
      let next : k + 1 ≡ suc k = omega arith in
      let twice : 2 ^ k + 2 ^ k ≡ 2 ^ suc k = omega arith in
      made ∙ ap (λ t. t ⊗ t) is ∙ sym (power-add ring laws y (2 ^ k) (2 ^ k)) ∙ ap (λ n. power ring y n) (twice ∙ ap (λ n. 2 ^ n) (sym next))

  pub power-first : (y p : R) → p ≡ y → p ≡ power ring y (2 ^ 0)
  power-first y p is = is ∙ sym (product_one ring laws y)

  pub powers_below-twice : (y : R) (m : ℕ) → powers_below ring y (m + m) ≡ powers_below ring y m ++ map (λ w. power ring y m ⊗ w) (powers_below ring y m)
  unfolding powers_below
  powers_below-twice y m =
      let f = power ring y in
      map_range-add f 0 m m
      ∙ ap (λ l. map f (range_with_len 0 m) ++ l)
      (map_from (0 + m) 0 m f (λ x. f m ⊗ f x) (λ k h. simp zero-add (power-add ring laws y m k))
      ∙ sym (map_twice (λ w. f m ⊗ w) f (λ x. f m ⊗ f x) (λ x. refl) (range_with_len 0 m)))

  pub length-powers_below : (y : R) (n : ℕ) → length (powers_below ring y n) ≡ n
  unfolding powers_below
  length-powers_below y n = length-map-range_with_len (power ring y) 0 n

  pub powers_below-one : (y : R) → powers_below ring y (2 ^ 0) ≡ 𝟙 ∷ []
  unfolding powers_below
  powers_below-one y = refl

  pub selects : (c s x : R) → ((𝟙 ⊖ c) ⊗ x) ⊕ (c ⊗ (s ⊗ x)) ≡ (c ⊗ (s ⊖ 𝟙) ⊕ 𝟙) ⊗ x
  selects c s x = simp (laws.minus_is, laws.product_sum, sum_product ring laws, laws.one_product, product_one ring laws, product_negation ring laws, negation_product ring laws, laws.product_assoc, laws.sum_assoc, sum_left_comm ring laws, laws.sum_comm)
