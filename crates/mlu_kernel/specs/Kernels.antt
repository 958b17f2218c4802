-- The sums that the kernels compute.
use Rattle.std.specs.Prelude.{◌≡◌, ℕ, ◌+◌, ◌*◌, List, map, length, slice_index_or}
use Rattle.std.specs.List.{range_with_len}
use Rattle.mlu_ring.specs.Lanes.{logical}
use Rattle.mlu_ring.specs.Matrices.{row_at}
use Rattle.mlu_ring.specs.Ring.{Ring}
use Rattle.mlu_ring.specs.Sums.{sum_below, sum_of}
use Rattle.mlu_ring.specs.Tables.{pair}

-- the sum over j and i of rows[j] times w[i] times e[j * n + i], where n is the length of w
unfoldable pub double_sum : {R : Type 0} → Ring R → List R → List R → List R → R
double_sum ring rows w e =
    let n = length w in
    sum_below ring (length rows) (λ j. sum_below ring n (λ i. ring.product (ring.product (slice_index_or rows j ring.zero) (slice_index_or w i ring.zero)) (slice_index_or e (j * n + i) ring.zero)))

-- entry z is old[z] plus the sum over y of w[y] times e[y * s + z], where s is the length of old
unfoldable pub plus_rows : {R : Type 0} → Ring R → List R → List R → List R → List R
plus_rows ring old w e =
    let s = length old in
    map (λ z. ring.sum (slice_index_or old z ring.zero) (sum_below ring (length w) (λ y. ring.product (slice_index_or w y ring.zero) (slice_index_or e (y * s + z) ring.zero)))) (range_with_len 0 s)

-- entry y is the dot of w with row y of e, where rows are as long as w
abbrev pub dots_of_rows : {R : Type 0} → Ring R → List R → List R → ℕ → List R
dots_of_rows ring w e rows = map (λ y. pair ring w (row_at (length w) e y)) (range_with_len 0 rows)

-- the rows, each times its weight, are added to the lanes of the packed values, joined in order
abbrev pub AddsRows : {B Q V : Type 0} → Ring V → (B → V) → (Q → List V) → List V → List B → List Q → List Q → Type 0
AddsRows ring embed lanes weights rows old new = logical lanes new ≡ plus_rows ring (logical lanes old) weights (map embed rows)

-- the same, with the lanes of packed weights, each times the factor
abbrev pub AddsRowsByLane : {B Q V : Type 0} → Ring V → (B → V) → (Q → List V) → V → List Q → List B → List Q → List Q → Type 0
AddsRowsByLane ring embed lanes factor weights rows old new = AddsRows ring embed lanes (map (ring.product factor) (logical lanes weights)) rows old new

-- the lanes of the blocks, each block times its weight, are added to those of one packed value
abbrev pub AddsBlocks : {B P Q V : Type 0} → Ring V → (B → V) → (Q → List V) → (P → List B) → List V → List P → Q → Q → Type 0
AddsBlocks ring embed lanes block_lanes weights blocks old new = lanes new ≡ plus_rows ring (lanes old) weights (map embed (logical block_lanes blocks))

-- the lanes of the packed value add up to the dot of the lanes of the weights with the row
abbrev pub HasDot : {Q V : Type 0} → Ring V → (Q → List V) → List Q → List V → Q → Type 0
HasDot ring lanes weights row packed = sum_of ring (lanes packed) ≡ pair ring (logical lanes weights) row
