-- Products of two coordinates and of their complements, written with one product.
use Rattle.std.proofs.Common.{◌≡◌, sym, ap, ◌∙◌}
use Rattle.mlu_ring.specs.Ring.{Ring, RingLaws}
use Rattle.mlu_ring.proofs.Rings.{sum_product, product_one, product_negation, negation_product, sum_left_comm, sum_cancel, sum_negation}

module _ {R : Type 0} (ring : Ring R) (laws : RingLaws ring) where
  infixl 50 ◌⊕◌
  infixl 50 ◌⊖◌
  infixl 60 ◌⊗◌
  open ring use {sum as ◌⊕◌, product as ◌⊗◌, minus as ◌⊖◌, negation as neg, zero as 𝟘, one as 𝟙}

  negation-twice : (a : R) → neg (neg a) ≡ a
  negation-twice a = sum_cancel ring laws (neg a) (neg (neg a)) a (sum_negation ring laws (neg a) ∙ sym (laws.negation_sum a))

  cancels : (a b : R) → (a ⊕ b) ⊕ (neg a ⊕ neg b) ≡ 𝟘
  cancels a b =
      let moved : (a ⊕ b) ⊕ (neg a ⊕ neg b) ≡ (a ⊕ neg a) ⊕ (b ⊕ neg b) = simp (laws.sum_assoc, sum_left_comm ring laws) in
      moved ∙ ap (λ t. t ⊕ (b ⊕ neg b)) (sum_negation ring laws a) ∙ ap (λ t. 𝟘 ⊕ t) (sum_negation ring laws b) ∙ laws.zero_sum 𝟘

  negation-of_sum : (a b : R) → neg (a ⊕ b) ≡ neg a ⊕ neg b
  negation-of_sum a b = sum_cancel ring laws (a ⊕ b) (neg (a ⊕ b)) (neg a ⊕ neg b) (sum_negation ring laws (a ⊕ b) ∙ sym (cancels a b))

  -- the products of a coordinate and another's complement, from the one product of both
  pub leaves-product : (c d : R) → c ⊖ (c ⊗ d) ≡ c ⊗ (𝟙 ⊖ d)
  leaves-product c d = simp (laws.minus_is, laws.product_sum, product_one ring laws, product_negation ring laws)

  pub settles-product : (c d : R) → d ⊖ (c ⊗ d) ≡ (𝟙 ⊖ c) ⊗ d
  settles-product c d = simp (laws.minus_is, sum_product ring laws, laws.one_product, negation_product ring laws)

  pub agrees-products : (c d : R) → (𝟙 ⊖ (c ⊖ (c ⊗ d))) ⊖ (d ⊖ (c ⊗ d)) ≡ ((𝟙 ⊖ c) ⊗ (𝟙 ⊖ d)) ⊕ (c ⊗ d)
  agrees-products c d = simp (laws.minus_is, negation-of_sum, negation-twice, laws.product_sum, sum_product ring laws, laws.one_product, product_one ring laws, product_negation ring laws, negation_product ring laws, laws.sum_assoc, sum_left_comm ring laws)

  -- the factor of two coordinates, with one product
  pub factor-short : (p q : R) → ((q ⊕ q) ⊗ p ⊕ (𝟙 ⊖ p)) ⊖ q ≡ ((𝟙 ⊖ q) ⊗ (𝟙 ⊖ p)) ⊕ (q ⊗ p)
  factor-short p q = simp (laws.minus_is, laws.product_sum, sum_product ring laws, laws.one_product, product_one ring laws, product_negation ring laws, negation_product ring laws, negation-twice, laws.product_comm, laws.sum_assoc, sum_left_comm ring laws, laws.sum_comm)
