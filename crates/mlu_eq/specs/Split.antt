-- Tables kept in two halves.
use Rattle.std.specs.Prelude.{◌≡◌, ℕ, [], ◌∷◌, ◌+◌, ◌-◌, ◌*◌, ◌/◌, ◌%◌, ◌<◌, ◌≤◌, List, map, length, take, drop, slice_index_or}
use Rattle.std.specs.Borrow.{RattleType}
use Rattle.std.specs.List.{range_with_len}
use Rattle.std.specs.Mem.{type_size}
use Rattle.mlu_ring.specs.Lanes.{logical}
use Rattle.mlu_ring.specs.Ring.{Ring}
use Rattle.mlu_ring.specs.Successor.{shifted}
use Rattle.mlu_ring.specs.Sums.{plus_scaled}
use Rattle.mlu_ring.specs.Tables.{back}
use Rattle.mlu_kernel.specs.Kernels.{double_sum, plus_rows}
use Rattle.mlu_kernel.specs.declared.small.TheConstants.{SMALL_BYTES}

-- entry x is eq0[x / n] times w[x % n], where n is the length of w
unfoldable pub contents : {R : Type 0} → Ring R → List R → List R → List R
contents ring eq0 w =
    let n = length w in
    map (λ x. ring.product (slice_index_or eq0 (x / n) ring.zero) (slice_index_or w (x % n) ring.zero)) (range_with_len 0 (length eq0 * n))

-- the same where the second half is the lanes of packed weights, joined in order
abbrev pub packed_contents : {Q V : Type 0} → Ring V → (Q → List V) → List V → List Q → List V
packed_contents ring lanes eq0 weights = contents ring eq0 (logical lanes weights)

-- the lanes of packed weights, joined in order, each times the factor
abbrev pub scaled_lanes : {Q V : Type 0} → Ring V → (Q → List V) → V → List Q → List V
scaled_lanes ring lanes factor weights = map (ring.product factor) (logical lanes weights)

-- run blocks of n places, from block start on
abbrev pub run_of : {A : Type 0} → ℕ → ℕ → ℕ → List A → List A
run_of n start run xs = take (run * n) (drop (start * n) xs)

-- the first weight of block start, in blocks of n, or zero past the end
abbrev pub row_weight : {R : Type 0} → Ring R → ℕ → ℕ → List R → R
row_weight ring n start w = slice_index_or w (start * n) ring.zero

-- run rows of the table after it was moved, from row start on
abbrev pub moved_run : {R : Type 0} → Ring R → (List R → List R) → List R → List R → ℕ → ℕ → List R
moved_run ring moved eq0 w start run = run_of (length w) start run (moved (contents ring eq0 w))

-- the weight of the place before row start of the table, or zero at its start
abbrev pub border_weight : {R : Type 0} → Ring R → List R → List R → ℕ → R
border_weight ring eq0 w start = row_weight ring (length w) start (shifted ring (contents ring eq0 w))

-- from each place the weight times the first entry of the row after its own is taken, where rows are as long as the width
abbrev pub TakesBorders : {R : Type 0} → Ring R → R → List R → ℕ → List R → List R → Type 0
TakesBorders ring weight entries width old new = (y : ℕ) → y < length old
    → slice_index_or new y ring.zero ≡ ring.minus (slice_index_or old y ring.zero) (ring.product weight (slice_index_or entries ((y + 1) * width) ring.zero))

-- all weights but the last
abbrev pub all_but_last : {R : Type 0} → List R → List R
all_but_last w = take (length w - 1) w

-- the old entries plus a row for each lane of the packed weights, times the lane and the factor
abbrev pub plus_lane_rows : {B Q V : Type 0} → Ring V → (B → V) → (Q → List V) → List V → V → List Q → List B → List V
plus_lane_rows ring embed lanes old factor weights rows = plus_rows ring old (scaled_lanes ring lanes factor weights) (map embed rows)

-- the same for each lane but the last, where a packed weight has as many lanes as the width
abbrev pub plus_leading_rows : {B Q V : Type 0} → Ring V → (B → V) → (Q → List V) → ℕ → List V → V → List Q → List B → List V
plus_leading_rows ring embed lanes width old factor weights rows =
    plus_rows ring old (map (ring.product factor) (take (length weights * width - 1) (logical lanes weights))) (map embed rows)

-- entry y is the dot of row y of the entries with the table of eq0 and the lanes of packed weights, after it was moved
abbrev pub packed_back : {Q V : Type 0} → Ring V → (Q → List V) → (List V → List V) → List V → List Q → List V → List V
packed_back ring lanes moved eq0 weights entries = back ring (moved (packed_contents ring lanes eq0 weights)) entries

-- the double sum of the lanes of packed weights and packed entries
abbrev pub packed_sum : {Q V : Type 0} → Ring V → (Q → List V) → List V → List Q → List Q → V
packed_sum ring lanes eq0 weights entries = double_sum ring eq0 (logical lanes weights) (logical lanes entries)

-- the entries, each times the scale, are added to the lanes of the packed places, joined in order
abbrev pub AddsScaled : {Q V : Type 0} → Ring V → (Q → List V) → V → List V → List Q → List Q → Type 0
AddsScaled ring lanes scale entries old new = logical lanes new ≡ plus_scaled ring (logical lanes old) scale entries

-- the same of the table of eq0 and the lanes of packed weights
abbrev pub AddsPackedTable : {Q V : Type 0} → Ring V → (Q → List V) → V → List V → List Q → List Q → List Q → Type 0
AddsPackedTable ring lanes scale eq0 weights old new = AddsScaled ring lanes scale (packed_contents ring lanes eq0 weights) old new

-- the places are whole packings, so many at most, which take few bytes
abbrev pub FillPackings : ℕ → ℕ → ℕ → RattleType → Type 0
FillPackings width places most packing = (places ≡ places / width * width) × (places / width ≤ most) × (type_size packing < SMALL_BYTES)

-- the elements that have these coefficients, one each
abbrev pub constants : {B E : Type 0} → (List B → E) → List B → List E
constants of_coefficients column = map (λ c. of_coefficients (c ∷ [])) column

-- weights of one coefficient, so many at most, which take few bytes
abbrev pub AreConstants : ℕ → ℕ → ℕ → RattleType → Type 0
AreConstants dimension weights most base = (dimension ≡ 1) × (weights ≤ most) × (type_size base < SMALL_BYTES)

-- so many packed weights have at most this many lanes, elements that take few bytes
abbrev pub HasFewLanes : ℕ → ℕ → ℕ → RattleType → Type 0
HasFewLanes width weights most element = (weights * width ≤ most) × (type_size element < SMALL_BYTES)
