-- Packed values of an extension: a list of packed coefficients, read as a list of elements.
use Rattle.std.specs.Prelude.{◌≡◌, ◌<◌, ℕ, List, length, map, slice_index_or}
use Rattle.std.proofs.Common.{sym, ap, ◌∙◌}
use Rattle.std.proofs.lemmas.List.{ext_get_or, get_or-map, length-map}
use Rattle.mlu_ring.specs.Columns.{column_of}
use Rattle.mlu_ring.specs.Lanes.{IsLists}
use Rattle.mlu_ring.proofs.Tabulated.{tabulate, length-tabulate, get_or-tabulate, tabulate-entries}
use Rattle.mlu_lanes.specs.LaneRing.{values_of, packed_of, lanes_are_lists}
use Rattle.mlu_lanes.specs.declared.lanes.Lanes.{Lanes}

-- E has D coefficients in F, and P has D coefficients in the lanes of W elements of F
pub record Layout (F E P : Type 0) (D W : ℕ) : Type 0 where
  pub coefficients : E → List F
  pub of_coefficients : List F → E
  pub packed_coefficients : P → List (Lanes F W)
  pub of_packed_coefficients : List (Lanes F W) → P
  pub are_lists : IsLists D coefficients of_coefficients
  pub packed_are_lists : IsLists D packed_coefficients of_packed_coefficients

module _ {F E P : Type 0} {D W : ℕ} (zero : F) (layout : Layout F E P D W) where
  -- the element of lane k of each coefficient
  abbrev pub lane_of : P → ℕ → E
  lane_of p k = layout.of_coefficients (map (λ q. slice_index_or (values_of q) k zero) (layout.packed_coefficients p))

  -- the elements of all lanes
  abbrev pub elements_of : P → List E
  elements_of p = tabulate W (lane_of p)

  -- coefficient c of each element, in lanes
  abbrev pub packed_column : List E → ℕ → Lanes F W
  packed_column xs c = packed_of W zero (column_of zero layout.coefficients xs c)

  -- the packed value with these elements
  abbrev pub of_elements : List E → P
  of_elements xs = layout.of_packed_coefficients (tabulate D (packed_column xs))

  -- coefficient c of lane k is lane k of coefficient c
  lane-coefficient : (p : P) (k c : ℕ) (q : Lanes F W) → c < D
      → slice_index_or (layout.coefficients (lane_of p k)) c zero
      ≡ slice_index_or (values_of (slice_index_or (layout.packed_coefficients p) c q)) k zero
  lane-coefficient p k c q below =
      let packed = layout.packed_coefficients p in
      let long = layout.packed_are_lists.length-parts p in
      let lanes = map (λ r. slice_index_or (values_of r) k zero) packed in
      let in_p : c < length packed = rw long below in
      ap (λ l. slice_index_or l c zero) (layout.are_lists.parts-whole lanes (length-map packed (λ r. slice_index_or (values_of r) k zero) ∙ long))
      ∙ get_or-map (λ r. slice_index_or (values_of r) k zero) packed c q zero in_p

  pub transposed : (p : P) (k c : ℕ) (e : E) (q : Lanes F W) → k < W → c < D
      → slice_index_or (layout.coefficients (slice_index_or (elements_of p) k e)) c zero
      ≡ slice_index_or (values_of (slice_index_or (layout.packed_coefficients p) c q)) k zero
  transposed p k c e q in_lanes below =
      ap (λ x. slice_index_or (layout.coefficients x) c zero) (get_or-tabulate W (lane_of p) k e in_lanes) ∙ lane-coefficient p k c q below

  column-elements : (p : P) (c : ℕ) (q : Lanes F W) → c < D
      → column_of zero layout.coefficients (elements_of p) c ≡ values_of (slice_index_or (layout.packed_coefficients p) c q)
  column-elements p c q below =
      let e = lane_of p 0 in
      let r = slice_index_or (layout.packed_coefficients p) c q in
      let elements = length-tabulate W (lane_of p) in
      let long = length-map (elements_of p) (λ x. slice_index_or (layout.coefficients x) c zero) ∙ elements in
      ext_get_or zero (column_of zero layout.coefficients (elements_of p) c) (values_of r) (long ∙ sym r.full)
      (λ k h.
      let in_lanes : k < W = rw (sym long) h in
      let in_elements : k < length (elements_of p) = rw elements in_lanes in
      get_or-map (λ x. slice_index_or (layout.coefficients x) c zero) (elements_of p) k e zero in_elements ∙ transposed p k c e q in_lanes below)

  of_elements-elements : (p : P) → of_elements (elements_of p) ≡ p
  of_elements-elements p =
      let packed = layout.packed_coefficients p in
      let q = packed_column (elements_of p) 0 in
      ap layout.of_packed_coefficients
      (tabulate-entries D (packed_column (elements_of p)) q packed (layout.packed_are_lists.length-parts p)
      (λ c below.
      ap (packed_of W zero) (column-elements p c q below) ∙ (lanes_are_lists W zero).whole-parts (slice_index_or packed c q)))
      ∙ layout.packed_are_lists.whole-parts p

  -- lane k of what the elements give is element k
  lane-of_elements : (xs : List E) (k : ℕ) (e : E) → length xs ≡ W → k < W → lane_of (of_elements xs) k ≡ slice_index_or xs k e
  lane-of_elements xs k e long in_lanes =
      let lane = lane_of (of_elements xs) k in
      let x = slice_index_or xs k e in
      let q = packed_column xs 0 in
      let in_xs : k < length xs = rw long in_lanes in
      let same : layout.coefficients lane ≡ layout.coefficients x =
      ext_get_or zero (layout.coefficients lane) (layout.coefficients x) (layout.are_lists.length-parts lane ∙ sym (layout.are_lists.length-parts x))
      (λ c h.
      let below : c < D = rw (sym (layout.are_lists.length-parts lane)) h in
      lane-coefficient (of_elements xs) k c q below
      ∙ ap (λ l. slice_index_or (values_of (slice_index_or l c q)) k zero)
      (layout.packed_are_lists.parts-whole (tabulate D (packed_column xs)) (length-tabulate D (packed_column xs)))
      ∙ ap (λ r. slice_index_or (values_of r) k zero) (get_or-tabulate D (packed_column xs) c q below)
      ∙ ap (λ l. slice_index_or l k zero)
      ((lanes_are_lists W zero).parts-whole (column_of zero layout.coefficients xs c) (length-map xs (λ y. slice_index_or (layout.coefficients y) c zero) ∙ long))
      ∙ get_or-map (λ y. slice_index_or (layout.coefficients y) c zero) xs k e zero in_xs) in
      sym (layout.are_lists.whole-parts lane) ∙ ap layout.of_coefficients same ∙ layout.are_lists.whole-parts x

  pub elements_are_lists : IsLists W elements_of of_elements
  elements_are_lists = record {
    length-parts = λ p. length-tabulate W (lane_of p);
    whole-parts = of_elements-elements;
    parts-whole = λ xs long.
        let e = lane_of (of_elements xs) 0 in
        tabulate-entries W (lane_of (of_elements xs)) e xs long (λ k in_lanes. lane-of_elements xs k e long in_lanes);
  }
