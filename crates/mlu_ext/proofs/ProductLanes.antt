-- The elements of a packed product, by its entries, and products of its one lane.
use Rattle.std.specs.Prelude.{◌≡◌, ◌<◌, ℕ, slice_index_or}
use Rattle.std.proofs.Common.{◌∙◌}
use Rattle.mlu_ring.proofs.Tabulated.{get_or-tabulate}
use Rattle.mlu_ring.specs.Ring.{Ring}
use Rattle.mlu_lanes.specs.declared.lanes.Lanes.{Lanes}
use Rattle.mlu_lanes.specs.Entrywise.{EntrywiseTriple, zipped_by}
use Rattle.mlu_lanes.specs.LaneRing.{lane_ring}
use Rattle.mlu_ext.specs.Transposed.{lane_of}
use Rattle.mlu_ext.specs.Product.{entries_of, product_ring, entries_zipped_by}
use Rattle.mlu_ext.specs.ProductMaps.{product_layout, product_elements, product_lane, lane-is_map}
use Rattle.mlu_ext.specs.declared.product.ProductAlgebra.{ProductAlgebra}

module _ {F : Type 0} (W D : ℕ) (zero : F) where
  pub product-of_lane : (p : ProductAlgebra (Lanes F W) D) (k : ℕ) (e : ProductAlgebra F D) → k < W
      → slice_index_or (product_elements W D zero p) k e ≡ product_lane W D zero p k
  product-of_lane p k e below = get_or-tabulate W (lane_of zero (product_layout W D zero) p) k e below ∙ lane-is_map W D zero p k

module _ {F : Type 0} (D : ℕ) (base : Ring F) where
  abbrev IsProduct : (x y z : ProductAlgebra F D) → Type 0
  IsProduct x y z = EntrywiseTriple D (λ p q r. r ≡ base.product p q) (entries_of x) (entries_of y) (entries_of z)

  -- one lane whose entries are products is the product in the ring of lanes
  pub product-of_one_lane : (a b r : Lanes (ProductAlgebra F D) 1) → EntrywiseTriple 1 IsProduct a.values b.values r.values
      → r ≡ (lane_ring 1 (product_ring D base)).product a b
  product-of_one_lane =
      let ring = product_ring D base in
      zipped_by 1 IsProduct ring.product (entries_zipped_by D (λ p q r. r ≡ base.product p q) base.product (λ p q r h. h) base.zero) ring.zero
