-- Polynomials with packed coefficients, as lists of polynomials.
use Rattle.std.specs.Prelude.{◌≡◌, ◌<◌, ℕ, List, map, replicate, slice_index_or}
use Rattle.std.proofs.Common.{sym, ◌∙◌, refl}
use Rattle.std.proofs.lemmas.List.{get_or-map, get_or-replicate, length-map}
use Rattle.std.proofs.lemmas.Simd.{length-replicate}
use Rattle.mlu_ring.specs.Ring.{Ring, RingLaws}
use Rattle.mlu_ring.specs.Lanes.{IsLists, IsLaneByLane}
use Rattle.mlu_ring.proofs.LaneMaps.{lanes_by_ring_maps}
use Rattle.mlu_ring.proofs.Tabulated.{tabulate-entries}
use Rattle.mlu_lanes.specs.LaneRing.{values_of, splat, lane_ring, lane_laws}
use Rattle.mlu_lanes.proofs.OneLane.{lane_is_ring_map}
use Rattle.mlu_lanes.specs.declared.lanes.Lanes.{Lanes}
use Rattle.mlu_ext.specs.Transposed.{Layout, elements_of, of_elements, elements_are_lists, transposed}
use Rattle.mlu_ext.specs.Quartic.{quartic_coefficients, quartic_of, quartic_map, quartic_ring, constant}
use Rattle.mlu_ext.specs.QuarticLaws.{quartic_laws, quartic_same}
use Rattle.mlu_ext.specs.QuarticMaps.{quartic_are_lists, quartic_map_is_ring_map}
use Rattle.mlu_ext.specs.declared.quartic.QuarticExtension.{QuarticExtension}

module _ {F : Type 0} (W : ℕ) (zero : F) where
  -- a polynomial, and a packed one, by its coefficients
  abbrev pub quartic_layout : Layout F (QuarticExtension F) (QuarticExtension (Lanes F W)) 4 W
  quartic_layout = record {
    coefficients = quartic_coefficients;
    of_coefficients = quartic_of zero;
    packed_coefficients = quartic_coefficients;
    of_packed_coefficients = quartic_of (splat W zero);
    are_lists = quartic_are_lists zero;
    packed_are_lists = quartic_are_lists (splat W zero);
  }

  -- the polynomials of all lanes
  abbrev pub quartic_elements : QuarticExtension (Lanes F W) → List (QuarticExtension F)
  quartic_elements = elements_of zero quartic_layout

  -- the packed polynomial with these in its lanes
  abbrev pub quartic_of_elements : List (QuarticExtension F) → QuarticExtension (Lanes F W)
  quartic_of_elements = of_elements zero quartic_layout

  abbrev pub quartic_lane : QuarticExtension (Lanes F W) → ℕ → QuarticExtension F
  quartic_lane p k = quartic_map (λ q. slice_index_or (values_of q) k zero) p

  pub quartic_elements_are_lists : IsLists W quartic_elements quartic_of_elements
  quartic_elements_are_lists = elements_are_lists zero quartic_layout

  pub quartic_transposed : (p : QuarticExtension (Lanes F W)) (k c : ℕ) → k < W → c < 4
      → slice_index_or (quartic_coefficients (slice_index_or (quartic_elements p) k (constant zero zero))) c zero
      ≡ slice_index_or (values_of (slice_index_or (quartic_coefficients p) c (splat W zero))) k zero
  quartic_transposed p k c = transposed zero quartic_layout p k c (constant zero zero) (splat W zero)

  pub quartic_elements-splat : (x : QuarticExtension F) → quartic_elements (quartic_map (splat W) x) ≡ replicate W x
  quartic_elements-splat x =
      tabulate-entries W _ x (replicate W x) (length-replicate W x)
      (λ k h.
      let at : (y : F) → slice_index_or (replicate W y) k zero ≡ y = λ y. get_or-replicate W k y zero h in
      quartic_same (at x.c0) (at x.c1) (at x.c2) (at x.c3) ∙ sym (get_or-replicate W k x x h))

  pub quartic_elements-constant : (p : Lanes F W) → quartic_elements (constant (splat W zero) p) ≡ map (constant zero) (values_of p)
  quartic_elements-constant p =
      tabulate-entries W _ (constant zero zero) (map (constant zero) (values_of p)) (length-map (values_of p) (constant zero) ∙ p.full)
      (λ k h.
      let at : slice_index_or (replicate W zero) k zero ≡ zero = get_or-replicate W k zero zero h in
      quartic_same refl at at at ∙ sym (get_or-map (constant zero) (values_of p) k zero (constant zero zero) (rw p.full h)))

module _ {F : Type 0} (W : ℕ) (ring : Ring F) (laws : RingLaws ring) where
  pub quartic_elements_by_lane : IsLaneByLane W (quartic_elements W ring.zero) (quartic_ring (lane_ring W ring)) (quartic_ring ring)
  quartic_elements_by_lane =
      let packed = quartic_ring (lane_ring W ring) in
      let packed_laws = lane_laws W ring laws in
      lanes_by_ring_maps packed (quartic_ring ring) (quartic_laws (lane_ring W ring) packed_laws) (quartic_laws ring laws) W (quartic_lane W ring.zero)
      (λ k h. quartic_map_is_ring_map (lane_ring W ring) ring (λ q. slice_index_or (values_of q) k ring.zero) packed_laws laws (lane_is_ring_map W ring k h))
