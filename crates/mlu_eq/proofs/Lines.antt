-- The lines through the images of two base elements, from their difference.
use Rattle.std.proofs.Common.{◌≡◌, List, [], ◌∷◌, map, refl}
use Rattle.std.specs.Simd.Lanes.{zip2}
use Rattle.mlu_ring.specs.Ring.{Ring, RingLaws, IsRingMap}
use Rattle.mlu_ring.proofs.Rings.{line_by_step}
use Rattle.mlu_ring.proofs.RingMaps.{map-minus}
use Rattle.mlu_eq.specs.Combine.{interpolated, interpolated_images}

module _ {B R : Type 0} (base : Ring B) (base_laws : RingLaws base) (ring : Ring R) (laws : RingLaws ring) (f : B → R) (keeps : IsRingMap base ring f) where
  pub line_of_images : (low high step : B) (r product total : R) → step ≡ base.minus high low → product ≡ ring.product r (f step) → total ≡ ring.sum product (f low)
      → total ≡ interpolated ring r (f low) (f high)
  line_of_images low high step r product total subtracted multiplied added =
      let embedded = map-minus base base_laws ring laws f keeps high low in
      let swapped = laws.sum_comm (ring.product r (ring.minus (f high) (f low))) (f low) in
      let line = line_by_step ring laws (f low) (f high) r in
      cc (subtracted, multiplied, added, embedded, swapped, line)

  -- the same place by place
  pub lines_of_images : (r : R) (low high : List B) → zip2 ring.sum (map (ring.product r) (map f (zip2 base.minus high low))) (map f low) ≡ interpolated_images ring f r low high
  lines_of_images r [] [] = refl
  lines_of_images r [] (y ∷ ys) = refl
  lines_of_images r (x ∷ xs) [] = refl
  lines_of_images r (x ∷ xs) (y ∷ ys) = λ i. line_of_images x y _ r _ _ refl refl refl i ∷ lines_of_images r xs ys i
