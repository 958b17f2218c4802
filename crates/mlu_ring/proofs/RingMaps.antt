-- What a map that keeps zero, sums and products keeps besides.
use Rattle.std.proofs.Common.{◌≡◌, sym, ap, ◌∙◌}
use Rattle.mlu_ring.specs.Ring.{Ring, RingLaws, IsRingMap}
use Rattle.mlu_ring.proofs.Rings.{sum_cancel, sum_negation}

module _ {B R : Type 0} (base : Ring B) (base_laws : RingLaws base) (ring : Ring R) (laws : RingLaws ring) (f : B → R) (keeps : IsRingMap base ring f) where
  pub map-negation : (b : B) → f (base.negation b) ≡ ring.negation (f b)
  map-negation b =
      sum_cancel ring laws (f b) (f (base.negation b)) (ring.negation (f b))
      (laws.sum_comm (f b) (f (base.negation b)) ∙ sym (keeps.sum (base.negation b) b) ∙ ap f (base_laws.negation_sum b) ∙ keeps.zero ∙ sym (sum_negation ring laws (f b)))

  pub map-minus : (a b : B) → f (base.minus a b) ≡ ring.minus (f a) (f b)
  map-minus a b =
      ap f (base_laws.minus_is a b)
      ∙ keeps.sum a (base.negation b)
      ∙ ap (λ t. ring.sum (f a) t) (map-negation b)
      ∙ sym (laws.minus_is (f a) (f b))
