-- Sums with a constant, and the coefficients of a product as sums of four products.
use Rattle.std.specs.Prelude.{◌≡◌, [], ◌∷◌}
use Rattle.std.proofs.Common.{sym, ◌∙◌, refl}
use Rattle.mlu_ring.specs.Ring.{Ring, RingLaws}
use Rattle.mlu_ring.specs.Tables.{pair}
use Rattle.mlu_ring.proofs.Pairs.{pair-of_four}
use Rattle.mlu_ring.proofs.Rings.{sum_zero}
use Rattle.mlu_ext.specs.Eleven.{eleven}
use Rattle.mlu_ext.specs.Quartic.{quartic_coefficients, quartic, constant, quartic_product, quartic_ring}
use Rattle.mlu_ext.specs.QuarticLaws.{quartic_same, product-written}
use Rattle.mlu_ext.specs.declared.quartic.QuarticExtension.{QuarticExtension}

module _ {R : Type 0} (ring : Ring R) (laws : RingLaws ring) where
  infixl 50 ◌⊕◌
  infixl 60 ◌⊗◌
  open ring use {sum as ◌⊕◌, product as ◌⊗◌}

  -- the sum with a constant has it in the first coefficient alone
  pub sum-constant : (a : QuarticExtension R) (x : R)
      → (quartic_ring ring).sum a (constant ring.zero x) ≡ quartic (ring.sum a.c0 x) a.c1 a.c2 a.c3
  sum-constant a x = quartic_same refl (sum_zero ring laws _) (sum_zero ring laws _) (sum_zero ring laws _)

  -- four products, added in two halves
  pair-row : (a : QuarticExtension R) (u v w x : R)
      → (a.c0 ⊗ u) ⊕ (a.c1 ⊗ v) ⊕ ((a.c2 ⊗ w) ⊕ (a.c3 ⊗ x)) ≡ pair ring (quartic_coefficients a) (u ∷ v ∷ w ∷ x ∷ [])
  pair-row a u v w x = sym (pair-of_four ring laws a.c0 a.c1 a.c2 a.c3 u v w x)

  -- each coefficient of the product is a sum of four products
  pub product-rows : (a b : QuarticExtension R) (r1 r2 r3 k0 k1 k2 k3 : R)
      → r1 ≡ eleven ring ⊗ b.c1 → r2 ≡ eleven ring ⊗ b.c2 → r3 ≡ eleven ring ⊗ b.c3
      → k0 ≡ pair ring (quartic_coefficients a) (b.c0 ∷ r3 ∷ r2 ∷ r1 ∷ [])
      → k1 ≡ pair ring (quartic_coefficients a) (b.c1 ∷ b.c0 ∷ r3 ∷ r2 ∷ [])
      → k2 ≡ pair ring (quartic_coefficients a) (b.c2 ∷ b.c1 ∷ b.c0 ∷ r3 ∷ [])
      → k3 ≡ pair ring (quartic_coefficients a) (b.c3 ∷ b.c2 ∷ b.c1 ∷ b.c0 ∷ [])
      → quartic k0 k1 k2 k3 ≡ quartic_product ring a b
  product-rows a b r1 r2 r3 k0 k1 k2 k3 e1 e2 e3 f0 f1 f2 f3 =
      quartic_same
      (cc (f0, e1, e2, e3, pair-row a b.c0 r3 r2 r1))
      (cc (f1, e2, e3, pair-row a b.c1 b.c0 r3 r2))
      (cc (f2, e3, pair-row a b.c2 b.c1 b.c0 r3))
      (cc (f3, pair-row a b.c3 b.c2 b.c1 b.c0))
      ∙ sym (product-written ring laws a b)
