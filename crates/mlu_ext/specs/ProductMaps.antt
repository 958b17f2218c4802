-- Maps of the entries, and packed entries as lists of elements.
use Rattle.std.specs.Prelude.{◌≡◌, ◌<◌, ℕ, List, map, replicate, slice_index_or}
use Rattle.std.proofs.Common.{sym, ap, ◌∙◌}
use Rattle.std.proofs.lemmas.List.{length-map, map-id, get_or-map, get_or-replicate}
use Rattle.std.proofs.lemmas.Simd.{length-replicate, zip2_splat}
use Rattle.mlu_ring.specs.Ring.{Ring, RingLaws, IsRingMap}
use Rattle.mlu_ring.specs.Lanes.{IsLists, IsLaneByLane}
use Rattle.mlu_ring.proofs.Doubling.{map_twice}
use Rattle.mlu_ring.proofs.EntrywiseLaws.{map-replicate, map-zip}
use Rattle.mlu_ring.proofs.LaneMaps.{same_ring_map, lanes_by_ring_maps}
use Rattle.mlu_ring.proofs.Resized.{resized-whole}
use Rattle.mlu_ring.proofs.Tabulated.{tabulate-entries}
use Rattle.mlu_lanes.specs.LaneRing.{values_of, lanes_of, splat, lane_ring, lane_laws}
use Rattle.mlu_lanes.proofs.OneLane.{lane_is_ring_map}
use Rattle.mlu_lanes.specs.declared.lanes.Lanes.{Lanes}
use Rattle.mlu_ext.specs.Transposed.{Layout, lane_of, elements_of, of_elements, elements_are_lists, transposed}
use Rattle.mlu_ext.specs.Product.{entries_of, product_of, same_entries, diagonal, product_from, entries_are_lists, product_ring, product_laws}
use Rattle.mlu_ext.specs.declared.product.ProductAlgebra.{ProductAlgebra}

-- each entry's image
abbrev pub product_map : {B R : Type 0} (D : ℕ) → (B → R) → ProductAlgebra B D → ProductAlgebra R D
product_map D f a = product_of D (lanes_of D (map f (entries_of a)) (length-map (entries_of a) f ∙ a.copies.full))

-- a map of rings on each entry is one of the products
module _ {B R : Type 0} (D : ℕ) (base : Ring B) (ring : Ring R) (f : B → R) (keeps : IsRingMap base ring f) where
  splat-image : (x : B) (y : R) → f x ≡ y → product_map D f (diagonal D x) ≡ diagonal D y
  splat-image x y e = same_entries D _ _ (map-replicate f x D ∙ ap (replicate D) e)

  pub product_map_is_ring_map : IsRingMap (product_ring D base) (product_ring D ring) (product_map D f)
  product_map_is_ring_map = record {
    zero = splat-image base.zero ring.zero keeps.zero;
    one = splat-image base.one ring.one keeps.one;
    sum = λ a b. same_entries D _ _ (map-zip f base.sum ring.sum keeps.sum (entries_of a) (entries_of b));
    product = λ a b. same_entries D _ _ (map-zip f base.product ring.product keeps.product (entries_of a) (entries_of b));
  }

-- the product with x in every entry has each entry times x
pub product-diagonal_entries : {R : Type 0} (D : ℕ) (ring : Ring R) (a : ProductAlgebra R D) (x : R)
    → entries_of ((product_ring D ring).product a (diagonal D x)) ≡ map (λ c. ring.product c x) (entries_of a)
product-diagonal_entries D ring a x = zip2_splat ring.product (entries_of a) D x a.copies.full

module _ {F : Type 0} (W D : ℕ) (zero : F) where
  -- an element, and a packed one, by its entries
  abbrev pub product_layout : Layout F (ProductAlgebra F D) (ProductAlgebra (Lanes F W) D) D W
  product_layout = record {
    coefficients = entries_of;
    of_coefficients = product_from D zero;
    packed_coefficients = entries_of;
    of_packed_coefficients = product_from D (splat W zero);
    are_lists = entries_are_lists D zero;
    packed_are_lists = entries_are_lists D (splat W zero);
  }

  -- the elements of all lanes
  abbrev pub product_elements : ProductAlgebra (Lanes F W) D → List (ProductAlgebra F D)
  product_elements = elements_of zero product_layout

  -- the packed element with these in its lanes
  abbrev pub product_of_elements : List (ProductAlgebra F D) → ProductAlgebra (Lanes F W) D
  product_of_elements = of_elements zero product_layout

  abbrev pub product_lane : ProductAlgebra (Lanes F W) D → ℕ → ProductAlgebra F D
  product_lane p k = product_map D (λ q. slice_index_or (values_of q) k zero) p

  pub lane-is_map : (p : ProductAlgebra (Lanes F W) D) (k : ℕ) → lane_of zero product_layout p k ≡ product_lane p k
  lane-is_map p k = same_entries D _ _ (resized-whole zero D (entries_of (product_lane p k)) (product_lane p k).copies.full)

  pub product_elements_are_lists : IsLists W product_elements product_of_elements
  product_elements_are_lists = elements_are_lists zero product_layout

  pub product_transposed : (p : ProductAlgebra (Lanes F W) D) (k c : ℕ) → k < W → c < D
      → slice_index_or (entries_of (slice_index_or (product_elements p) k (diagonal D zero))) c zero
      ≡ slice_index_or (values_of (slice_index_or (entries_of p) c (splat W zero))) k zero
  product_transposed p k c = transposed zero product_layout p k c (diagonal D zero) (splat W zero)

  pub product_elements-splat : (x : ProductAlgebra F D) → product_elements (product_map D (splat W) x) ≡ replicate W x
  product_elements-splat x =
      tabulate-entries W _ x (replicate W x) (length-replicate W x)
      (λ k h.
      let at : (y : F) → slice_index_or (values_of (splat W y)) k zero ≡ y = λ y. get_or-replicate W k y zero h in
      lane-is_map (product_map D (splat W) x) k
      ∙ same_entries D _ _ (map_twice (λ q. slice_index_or (values_of q) k zero) (splat W) (λ y. y) at (entries_of x) ∙ map-id (entries_of x))
      ∙ sym (get_or-replicate W k x x h))

  pub product_elements-diagonal : (p : Lanes F W) → product_elements (diagonal D p) ≡ map (diagonal D) (values_of p)
  product_elements-diagonal p =
      tabulate-entries W _ (diagonal D zero) (map (diagonal D) (values_of p)) (length-map (values_of p) (diagonal D) ∙ p.full)
      (λ k h.
      lane-is_map (diagonal D p) k
      ∙ same_entries D _ _ (map-replicate (λ q. slice_index_or (values_of q) k zero) p D)
      ∙ sym (get_or-map (diagonal D) (values_of p) k zero (diagonal D zero) (rw p.full h)))

module _ {F : Type 0} (W D : ℕ) (ring : Ring F) (laws : RingLaws ring) where
  pub product_elements_by_lane : IsLaneByLane W (product_elements W D ring.zero) (product_ring D (lane_ring W ring)) (product_ring D ring)
  product_elements_by_lane =
      let packed = product_ring D (lane_ring W ring) in
      let elements = product_ring D ring in
      let lane : ProductAlgebra (Lanes F W) D → ℕ → ProductAlgebra F D = lane_of ring.zero (product_layout W D ring.zero) in
      lanes_by_ring_maps packed elements (product_laws D (lane_ring W ring) (lane_laws W ring laws)) (product_laws D ring laws) W lane
      (λ k h.
      same_ring_map packed elements (λ p. product_lane W D ring.zero p k) (λ p. lane p k) (λ p. lane-is_map W D ring.zero p k)
      (product_map_is_ring_map D (lane_ring W ring) ring (λ q. slice_index_or (values_of q) k ring.zero) (lane_is_ring_map W ring k h)))
