-- Sums, weights and columns under a map that keeps sums and products, as that to one lane.
use Rattle.std.proofs.Common.{◌≡◌, ℕ, zero, suc, ◌+◌, ◌*◌, ◌/◌, ◌<◌, Bool, true, false, List, [], ◌∷◌, map, length, get_or, refl, sym, ap, ◌∙◌, nat_eq}
use Rattle.std.specs.Prelude.{if◌then◌else◌}
use Rattle.std.specs.List.{range_with_len}
use Rattle.std.specs.Simd.Lanes.{zip2}
use Rattle.std.proofs.lemmas.List.{length-map, get_or-replicate}
use Rattle.std.proofs.lemmas.Simd.{get_or-zip2}
use Rattle.mlu_ring.specs.Ring.{Ring, RingLaws, IsRingMap}
use Rattle.mlu_ring.specs.Lanes.{IsLaneByLane}
use Rattle.mlu_ring.specs.Sums.{sum_below, product_below}
use Rattle.mlu_ring.specs.Tables.{bit, factor, weight}
use Rattle.mlu_ring.specs.Matrices.{column}
use Rattle.mlu_ring.proofs.SumsBelow.{sum_below-zero, sum_below-suc, product_below-zero, product_below-suc, product_below-same}
use Rattle.mlu_ring.proofs.Doubling.{map_twice}
use Rattle.mlu_ring.proofs.RingMaps.{map-minus}

module _ {B R : Type 0} (base : Ring B) (base_laws : RingLaws base) (ring : Ring R) (laws : RingLaws ring) (f : B → R) (keeps : IsRingMap base ring f) where
  pub sum_below-image : (n : ℕ) (g : ℕ → B) → f (sum_below base n g) ≡ sum_below ring n (λ i. f (g i))
  sum_below-image zero g = ap f (sum_below-zero base g) ∙ keeps.zero ∙ sym (sum_below-zero ring (λ i. f (g i)))
  sum_below-image (suc n) g =
      ap f (sum_below-suc base n g)
      ∙ keeps.sum (g 0) (sum_below base n (λ k. g (suc k)))
      ∙ ap (λ t. ring.sum (f (g 0)) t) (sum_below-image n (λ k. g (suc k)))
      ∙ sym (sum_below-suc ring n (λ i. f (g i)))

  product_below-image : (n : ℕ) (g : ℕ → B) → f (product_below base n g) ≡ product_below ring n (λ i. f (g i))
  product_below-image zero g = ap f (product_below-zero base g) ∙ keeps.one ∙ sym (product_below-zero ring (λ i. f (g i)))
  product_below-image (suc n) g =
      ap f (product_below-suc base n g)
      ∙ keeps.product (g 0) (product_below base n (λ k. g (suc k)))
      ∙ ap (λ t. ring.product (f (g 0)) t) (product_below-image n (λ k. g (suc k)))
      ∙ sym (product_below-suc ring n (λ i. f (g i)))

  read-image : (values : List B) (i : ℕ) → f (get_or values i base.zero) ≡ get_or (map f values) i ring.zero
  read-image [] i = keeps.zero
  read-image (x ∷ values) zero = refl
  read-image (x ∷ values) (suc i) = read-image values i

  choice-image : (b : Bool) (c : B) → f (if b then c else base.minus base.one c) ≡ (if b then f c else ring.minus ring.one (f c))
  choice-image true c = refl
  choice-image false c = map-minus base base_laws ring laws f keeps base.one c ∙ ap (λ t. ring.minus t (f c)) keeps.one

  pub weight-image : (p : List B) (x : ℕ) → f (weight base p x) ≡ weight ring (map f p) x
  unfolding weight
  weight-image p x =
      let n = length p in
      product_below-image n (λ i. factor base (bit n i x) (get_or p i base.zero))
      ∙ product_below-same ring n _ _ (λ i q. choice-image (nat_eq (bit n i x) 1) (get_or p i base.zero) ∙ ap (factor ring (bit n i x)) (read-image p i))
      ∙ ap (λ m. product_below ring m (λ i. factor ring (bit m i x) (get_or (map f p) i ring.zero))) (sym (length-map p f))

  pub column-image : (values : List B) (w i : ℕ) → map f (column base values w i) ≡ column ring (map f values) w i
  unfolding column
  column-image values w i =
      let g = λ (j : ℕ). get_or values (j * w + i) base.zero in
      let h = λ (j : ℕ). get_or (map f values) (j * w + i) ring.zero in
      map_twice f g h (λ j. read-image values (j * w + i)) (range_with_len 0 (length values / w))
      ∙ ap (λ n. map h (range_with_len 0 (n / w))) (sym (length-map values f))

-- the map to one lane
module _ {P V : Type 0} (width : ℕ) (lanes : P → List V) (packed : Ring P) (ring : Ring V) (long : (p : P) → length (lanes p) ≡ width) (each : IsLaneByLane width lanes packed ring) (k : ℕ) (below : k < width) where
  abbrev pub lane : P → V
  lane p = get_or (lanes p) k ring.zero

  lane-zip : (f : V → V → V) (p q : P) → get_or (zip2 f (lanes p) (lanes q)) k ring.zero ≡ f (lane p) (lane q)
  lane-zip f p q = get_or-zip2 f (lanes p) (lanes q) k ring.zero ring.zero ring.zero (rw (long p) below) (rw (long q) below)

  read : (x y : List V) → x ≡ y → get_or x k ring.zero ≡ get_or y k ring.zero
  read x y e = ap (λ l. get_or l k ring.zero) e

  pub lane_is_ring_map : IsRingMap packed ring lane
  lane_is_ring_map = record {
    zero = read _ _ each.zero ∙ get_or-replicate width k ring.zero ring.zero below;
    one = read _ _ each.one ∙ get_or-replicate width k ring.one ring.zero below;
    sum = λ p q. read _ _ (each.sum p q) ∙ lane-zip ring.sum p q;
    product = λ p q. read _ _ (each.product p q) ∙ lane-zip ring.product p q;
  }
