-- Matrices row after row, and the points in their columns.
use Rattle.std.specs.Prelude.{◌≡◌, ℕ, ◌+◌, ◌-◌, ◌*◌, ◌/◌, List, [], ◌∷◌, Bool, map, length, take, drop, slice_index_or, if◌then◌else◌}
use Rattle.std.specs.List.{range_with_len}
use Rattle.std.specs.Simd.Lanes.{zip2}
use Rattle.mlu_ring.specs.Ring.{Ring}
use Rattle.mlu_ring.specs.Sums.{sum_below}
use Rattle.mlu_ring.specs.Tables.{weight}

-- n values are whole rows of the width; at width 0 there are none, since a quotient by 0 is 0
abbrev pub AreRows : ℕ → ℕ → Type 0
AreRows n width = n ≡ n / width * width

-- row j of the values cut into rows of the width
abbrev pub row_at : {A : Type 0} → ℕ → List A → ℕ → List A
row_at width values j = take width (drop (j * width) values)

-- the number of coordinates of the first point, and 0 where there is none
abbrev pub dimension : {R : Type 0} → List (List R) → ℕ
dimension [] = 0
dimension (p ∷ ps) = length p

-- row j is coordinate j of each of the points, or coordinate k - 1 - j where they are reversed
unfoldable pub transposed : {R : Type 0} → Ring R → List (List R) → Bool → List (List R)
transposed ring points reversed =
    let k = dimension points in
    map (λ j. map (λ p. slice_index_or p (if reversed then k - 1 - j else j) ring.zero) points) (range_with_len 0 k)

-- the point in column i of the matrix with these values and width: its rows are the coordinates
unfoldable pub column : {R : Type 0} → Ring R → List R → ℕ → ℕ → List R
column ring values width i = map (λ j. slice_index_or values (j * width + i) ring.zero) (range_with_len 0 (length values / width))

-- the first entries of the batch: entry x is the sum over i of scalars[i] times the weight of x at the point in column i
unfoldable pub batch : {R : Type 0} → Ring R → List R → List R → ℕ → List R
batch ring values scalars n =
    let width = length scalars in
    map (λ x. sum_below ring width (λ i. ring.product (slice_index_or scalars i ring.zero) (weight ring (column ring values width i) x))) (range_with_len 0 n)

-- what a table leaves in an output: itself, or the sums with what stood there
abbrev pub left_by : {R : Type 0} → Ring R → Bool → List R → List R → List R
left_by ring adds old table = if adds then zip2 ring.sum old table else table
