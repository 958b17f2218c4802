-- The elements of a packed value, by its columns.
use Rattle.std.specs.Prelude.{◌≡◌, ◌<◌, ℕ, List, length, slice_index_or}
use Rattle.std.proofs.Common.{sym, ap, ◌∙◌}
use Rattle.mlu_ring.proofs.Tabulated.{tabulate, tabulate-entries}
use Rattle.mlu_lanes.specs.LaneRing.{values_of, packed_of, lanes_are_lists}
use Rattle.mlu_lanes.specs.declared.lanes.Lanes.{Lanes}
use Rattle.mlu_ring.specs.Columns.{column_of}
use Rattle.mlu_ext.specs.Transposed.{Layout, elements_of, packed_column, elements_are_lists}

module _ {F E P : Type 0} {D W : ℕ} (zero : F) (layout : Layout F E P D W) where
  -- a packed value whose coefficients are the columns of the elements has them in its lanes
  pub elements-of_columns : (p : P) (xs : List E) (q : Lanes F W) → length xs ≡ W
      → ((c : ℕ) → c < D → values_of (slice_index_or (layout.packed_coefficients p) c q) ≡ column_of zero layout.coefficients xs c)
      → elements_of zero layout p ≡ xs
  elements-of_columns p xs q long at =
      let packed = layout.packed_coefficients p in
      let same : tabulate D (packed_column zero layout xs) ≡ packed =
      tabulate-entries D (packed_column zero layout xs) q packed (layout.packed_are_lists.length-parts p)
      (λ c below. ap (packed_of W zero) (sym (at c below)) ∙ (lanes_are_lists W zero).whole-parts (slice_index_or packed c q)) in
      ap (elements_of zero layout) (sym (layout.packed_are_lists.whole-parts p) ∙ ap layout.of_packed_coefficients (sym same))
      ∙ (elements_are_lists zero layout).parts-whole xs long
