-- A table that stands in front of zeros.
use Rattle.std.proofs.Common.{◌≡◌, ℕ, zero, suc, ◌+◌, ◌^◌, ◌≤◌, List, [], ◌∷◌, ◌++◌, map, length, get_or, replicate, refl, ap, sym, ◌∙◌, arith, length-append, zero-add, suc-add}
use Rattle.std.proofs.lemmas.List.{take_all, drop_all}
use Rattle.mlu_ring.specs.Ring.{Ring, RingLaws}
use Rattle.mlu_ring.specs.Sums.{product_of}
use Rattle.mlu_ring.specs.Tables.{weight, value}
use Rattle.mlu_ring.proofs.Rings.{product_zero, sum_zero}
use Rattle.mlu_ring.proofs.SumsBelow.{sum_below-same, sum_below-none}
use Rattle.mlu_ring.proofs.Values.{value-first}

power_le : (m n : ℕ) → 2 ^ n ≤ 2 ^ (m + n)
power_le zero n = simp zero-add (omega arith)
power_le (suc m) n = simp suc-add (omega (arith, power_le m n))

module _ {R : Type 0} (ring : Ring R) (laws : RingLaws ring) where
  infixl 50 ◌⊕◌
  infixl 50 ◌⊖◌
  infixl 60 ◌⊗◌
  open ring use {sum as ◌⊕◌, product as ◌⊗◌, minus as ◌⊖◌, zero as 𝟘, one as 𝟙}

  value-nil : (p : List R) → value ring [] p ≡ 𝟘
  unfolding value
  value-nil p =
      sum_below-same ring (2 ^ length p) (λ x. weight ring p x ⊗ 𝟘) (λ x. 𝟘) (λ x h. product_zero ring laws (weight ring p x))
      ∙ sum_below-none ring laws (2 ^ length p)

  pub value-padded : (e a b : List R) → length e ≡ 2 ^ length b → value ring e (a ++ b) ≡ product_of ring (map (λ c. 𝟙 ⊖ c) a) ⊗ value ring e b
  value-padded e [] b h = sym (laws.one_product (value ring e b))
  value-padded e (c ∷ a) b h =
      let long : length e ≤ 2 ^ length (a ++ b) = rw (h, length-append) (power_le (length a) (length b)) in
      value-first ring laws e c (a ++ b)
      ∙ rw (take_all (2 ^ length (a ++ b)) e long, drop_all (2 ^ length (a ++ b)) e long, value-nil (a ++ b), product_zero ring laws c, value-padded e a b h)
      (sum_zero ring laws _ ∙ sym (laws.product_assoc _ _ _))

  get_or-zeros : (k : ℕ) (x : ℕ) → get_or (replicate k 𝟘) x 𝟘 ≡ 𝟘
  get_or-zeros zero x = refl
  get_or-zeros (suc k) zero = refl
  get_or-zeros (suc k) (suc x) = get_or-zeros k x

  get_or-padded : (e : List R) (k x : ℕ) → get_or (e ++ replicate k 𝟘) x 𝟘 ≡ get_or e x 𝟘
  get_or-padded [] k x = get_or-zeros k x
  get_or-padded (y ∷ e) k zero = refl
  get_or-padded (y ∷ e) k (suc x) = get_or-padded e k x

  -- zeros past the end do not count
  value-zeros : (e p : List R) (k : ℕ) → value ring (e ++ replicate k 𝟘) p ≡ value ring e p
  unfolding value
  value-zeros e p k =
      sum_below-same ring (2 ^ length p) (λ x. weight ring p x ⊗ get_or (e ++ replicate k 𝟘) x 𝟘) (λ x. weight ring p x ⊗ get_or e x 𝟘)
      (λ x h. ap (λ t. weight ring p x ⊗ t) (get_or-padded e k x))

  pub value-with_zeros : (e a b : List R) (k : ℕ) → length e ≡ 2 ^ length b → value ring (e ++ replicate k 𝟘) (a ++ b) ≡ product_of ring (map (λ c. 𝟙 ⊖ c) a) ⊗ value ring e b
  value-with_zeros e a b k h = value-zeros e (a ++ b) k ∙ value-padded e a b h
