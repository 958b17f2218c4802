-- Eleven times an element.
use Rattle.std.specs.Prelude.{◌≡◌}
use Rattle.mlu_ring.specs.Ring.{Ring, RingLaws}
use Rattle.mlu_ring.specs.Sums.{sum_below}
use Rattle.mlu_ring.proofs.Rings.{sum_zero, sum_product}
use Rattle.mlu_ext.specs.Eleven.{eleven}

module _ {R : Type 0} (ring : Ring R) (laws : RingLaws ring) where
  infixl 50 ◌⊕◌
  infixl 60 ◌⊗◌
  open ring use {sum as ◌⊕◌, product as ◌⊗◌, zero as 𝟘, one as 𝟙}

  -- eight times, twice and once
  pub eleven-product : (x : R) → (((x ⊕ x) ⊕ (x ⊕ x)) ⊕ ((x ⊕ x) ⊕ (x ⊕ x))) ⊕ (x ⊕ x) ⊕ x ≡ eleven ring ⊗ x
  unfolding eleven sum_below
  eleven-product x = simp (sum_product ring laws, laws.one_product, sum_zero ring laws, laws.sum_assoc)
