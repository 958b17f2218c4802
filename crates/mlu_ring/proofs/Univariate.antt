-- Monomial folds at the powers of y leave the polynomial at y.
use Rattle.std.proofs.Common.{◌≡◌, ℕ, zero, suc, ◌+◌, ◌-◌, ◌*◌, ◌/◌, ◌^◌, ◌<◌, List, [], ◌∷◌, map, length, get_or, refl, sym, ap, ◌∙◌, arith, zero-add, suc-add}
use Rattle.std.proofs.lemmas.List.FromFn.{length-map-range_with_len}
use Rattle.std.specs.List.{range_with_len}
use Rattle.mlu_ring.specs.Ring.{Ring, RingLaws}
use Rattle.mlu_ring.specs.Sums.{sum_below}
use Rattle.mlu_ring.specs.Tables.{power, powers, front, univariate, monomial_folds}
use Rattle.mlu_ring.proofs.Rings.{product_left_comm, sum_zero, sum_product, product_one}
use Rattle.mlu_ring.proofs.SumsBelow.{map_from, sum_below-same, sum_below-add, sum_below-sum, sum_below-zero, sum_below-suc}
use Rattle.mlu_ring.proofs.Joined.{front-entry}

module _ {R : Type 0} (ring : Ring R) where
  powers-suc : (y : R) (n : ℕ) → powers ring y (suc n) ≡ power ring y (2 ^ n) ∷ powers ring y n
  unfolding powers
  powers-suc y n =
      let first : suc n - 1 - 0 ≡ n = omega arith in
      let here : power ring y (2 ^ (suc n - 1 - 0)) ≡ power ring y (2 ^ n) = ap (λ k. power ring y (2 ^ k)) first in
      ap (λ t. t ∷ map (λ i. power ring y (2 ^ (suc n - 1 - i))) (range_with_len 1 n)) here
      ∙ ap (λ l. power ring y (2 ^ n) ∷ l) (map_from 1 0 n (λ i. power ring y (2 ^ (suc n - 1 - i))) (λ i. power ring y (2 ^ (n - 1 - i)))
      (λ k h. ap (λ t. power ring y (2 ^ t)) (omega arith)))

  pub length-front : (w e : List R) (s : ℕ) → length e / length w ≡ s → length (front ring w e) ≡ s
  unfolding front
  length-front w e s is = length-map-range_with_len _ 0 (length e / length w) ∙ is

module _ {R : Type 0} (ring : Ring R) (laws : RingLaws ring) where
  infixl 50 ◌⊕◌
  infixl 60 ◌⊗◌
  open ring use {sum as ◌⊕◌, product as ◌⊗◌, zero as 𝟘, one as 𝟙}

  pub power-add : (y : R) (m n : ℕ) → power ring y (m + n) ≡ power ring y m ⊗ power ring y n
  power-add y zero n = rw zero-add (sym (laws.one_product (power ring y n)))
  power-add y (suc m) n = rw suc-add (ap (λ t. y ⊗ t) (power-add y m n) ∙ sym (laws.product_assoc y (power ring y m) (power ring y n)))

  monomial-entry : (e : List R) (c : R) (s z : ℕ) → length e / 2 ≡ s → z < s → get_or (front ring (𝟙 ∷ c ∷ []) e) z 𝟘 ≡ get_or e z 𝟘 ⊕ c ⊗ get_or e (s + z) 𝟘
  monomial-entry e c s z is h =
      let low : 0 * s + z ≡ z = omega arith in
      let high : suc 0 * s + z ≡ s + z = omega arith in
      front-entry ring laws (𝟙 ∷ c ∷ []) e z s is h
      ∙ sum_below-suc ring 1 _
      ∙ ap (λ t. 𝟙 ⊗ get_or e (0 * s + z) 𝟘 ⊕ t) (sum_below-suc ring 0 _ ∙ ap (λ t. c ⊗ get_or e (suc 0 * s + z) 𝟘 ⊕ t) (sum_below-zero ring _))
      ∙ rw (low, high, sum_zero ring laws, laws.one_product) refl

  step : (a b c p q : R) → (a ⊕ c ⊗ b) ⊗ p ≡ a ⊗ p ⊕ b ⊗ (c ⊗ p)
  step a b c p q = simp (sum_product ring laws, laws.product_assoc, product_left_comm ring laws, laws.product_comm)

  univariate-fold : (e : List R) (y : R) (n : ℕ) → length e ≡ 2 ^ suc n → univariate ring (front ring (𝟙 ∷ power ring y (2 ^ n) ∷ []) e) y ≡ univariate ring e y
  unfolding univariate
  univariate-fold e y n h =
      let m = 2 ^ n in
      let c = power ring y (2 ^ n) in
      let half : length e / 2 ≡ 2 ^ n = omega (arith, h) in
      let size : length e ≡ 2 ^ n + 2 ^ n = omega (arith, h) in
      let term = λ (i : ℕ). get_or e i 𝟘 ⊗ power ring y i in
      ap (λ k. sum_below ring k (λ i. get_or (front ring (𝟙 ∷ c ∷ []) e) i 𝟘 ⊗ power ring y i)) (length-front ring (𝟙 ∷ c ∷ []) e m half)
      ∙ sum_below-same ring m (λ i. get_or (front ring (𝟙 ∷ c ∷ []) e) i 𝟘 ⊗ power ring y i) (λ i. term i ⊕ term (m + i))
      (λ i q. rw (monomial-entry e c m i half q, power-add y m i) (step _ _ _ _ 𝟘))
      ∙ sum_below-sum ring laws m term (λ i. term (m + i))
      ∙ sym (sum_below-add ring laws m m term)
      ∙ ap (λ k. sum_below ring k term) (sym size)

  pub univariate-folds : (n : ℕ) (e : List R) (y : R) → length e ≡ 2 ^ n → monomial_folds ring e (powers ring y n) ≡ univariate ring e y ∷ []
  unfolding univariate powers
  univariate-folds zero [] y h = absurd (omega arith)
  univariate-folds zero (x ∷ []) y h =
      ap (λ t. t ∷ []) (sym (sum_below-suc ring 0 _ ∙ ap (λ t. x ⊗ 𝟙 ⊕ t) (sum_below-zero ring _) ∙ sum_zero ring laws (x ⊗ 𝟙) ∙ product_one ring laws x))
  univariate-folds zero (x ∷ z ∷ more) y h = absurd (omega arith)
  univariate-folds (suc n) e y h =
      let half : length e / 2 ≡ 2 ^ n = omega (arith, h) in
      rw (powers-suc ring y n)
      (univariate-folds n (front ring (𝟙 ∷ power ring y (2 ^ n) ∷ []) e) y (length-front ring (𝟙 ∷ power ring y (2 ^ n) ∷ []) e (2 ^ n) half)
      ∙ ap (λ t. t ∷ []) (univariate-fold e y n h))
