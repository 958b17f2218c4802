-- Maps of the quartic's coefficients.
use Rattle.std.specs.Prelude.{◌≡◌, ℕ, List, [], ◌∷◌, length, map}
use Rattle.std.proofs.Common.{sym, ap, ◌∙◌, refl, arith}
use Rattle.mlu_ring.specs.Ring.{Ring, RingLaws, IsRingMap}
use Rattle.mlu_ring.specs.Sums.{sum_below}
use Rattle.mlu_ring.specs.Lanes.{IsLists}
use Rattle.mlu_lanes.specs.LaneRing.{lane_ring, lane_laws, splat, splat_is_ring_map}
use Rattle.mlu_ext.specs.Eleven.{eleven}
use Rattle.mlu_ext.specs.Quartic.{quartic_coefficients, quartic_of, quartic_map, quartic_product, quartic_ring, constant}
use Rattle.mlu_ext.specs.QuarticLaws.{quartic_same, written, product-written, product-comm, constant-product}
use Rattle.mlu_ext.specs.declared.quartic.QuarticExtension.{QuarticExtension}

four : {R : Type 0} (d : R) (xs : List R) → length xs ≡ 4 → quartic_coefficients (quartic_of d xs) ≡ xs
four d (a ∷ b ∷ c ∷ e ∷ []) h = refl
four d [] h = absurd (omega arith)
four d (a ∷ []) h = absurd (omega arith)
four d (a ∷ b ∷ []) h = absurd (omega arith)
four d (a ∷ b ∷ c ∷ []) h = absurd (omega arith)
four d (a ∷ b ∷ c ∷ e ∷ f ∷ xs) h = absurd (omega arith)

-- a polynomial is its list of four coefficients
pub quartic_are_lists : {R : Type 0} (d : R) → IsLists 4 quartic_coefficients (quartic_of d)
quartic_are_lists d = record {
  length-parts = λ a. refl;
  whole-parts = λ a. refl;
  parts-whole = four d;
}

module _ {R : Type 0} (ring : Ring R) (laws : RingLaws ring) where
  -- the product with a constant has each coefficient times it
  pub product-constant : (a : QuarticExtension R) (x : R)
      → quartic_product ring a (constant ring.zero x) ≡ quartic_map (λ c. ring.product c x) a
  product-constant a x =
      product-comm ring laws a (constant ring.zero x) ∙ constant-product ring laws x a
      ∙ quartic_same (laws.product_comm _ _) (laws.product_comm _ _) (laws.product_comm _ _) (laws.product_comm _ _)

  pub product-constant_coefficients : (a : QuarticExtension R) (x : R)
      → quartic_coefficients (quartic_product ring a (constant ring.zero x)) ≡ map (λ c. ring.product c x) (quartic_coefficients a)
  product-constant_coefficients a x = ap quartic_coefficients (product-constant a x)

-- a map of rings on each coefficient is one of the polynomials
module _ {B R : Type 0} (base : Ring B) (ring : Ring R) (f : B → R) (base_laws : RingLaws base) (laws : RingLaws ring) (keeps : IsRingMap base ring f) where
  pub image-eleven : f (eleven base) ≡ eleven ring
  unfolding eleven sum_below
  image-eleven = simp (keeps.sum, keeps.one, keeps.zero)

  image-written : (a b : QuarticExtension B)
      → quartic_map f (written base base_laws (eleven base) a b) ≡ written ring laws (eleven ring) (quartic_map f a) (quartic_map f b)
  image-written a b =
      quartic_same
      (simp (keeps.sum, keeps.product, image-eleven))
      (simp (keeps.sum, keeps.product, image-eleven))
      (simp (keeps.sum, keeps.product, image-eleven))
      (simp (keeps.sum, keeps.product))

  pub quartic_map_is_ring_map : IsRingMap (quartic_ring base) (quartic_ring ring) (quartic_map f)
  quartic_map_is_ring_map = record {
    zero = quartic_same keeps.zero keeps.zero keeps.zero keeps.zero;
    one = quartic_same keeps.one keeps.zero keeps.zero keeps.zero;
    sum = λ a b. quartic_same (keeps.sum _ _) (keeps.sum _ _) (keeps.sum _ _) (keeps.sum _ _);
    product = λ a b. ap (quartic_map f) (product-written base base_laws a b) ∙ image-written a b ∙ sym (product-written ring laws (quartic_map f a) (quartic_map f b));
  }

-- a polynomial goes to the packed one that has it in every lane
pub quartic_splat_is_ring_map : {R : Type 0} (W : ℕ) (ring : Ring R) (laws : RingLaws ring)
    → IsRingMap (quartic_ring ring) (quartic_ring (lane_ring W ring)) (quartic_map (splat W))
quartic_splat_is_ring_map W ring laws = quartic_map_is_ring_map ring (lane_ring W ring) (splat W) laws (lane_laws W ring laws) (splat_is_ring_map W ring)
