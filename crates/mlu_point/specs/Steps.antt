-- A step from a row to its successor, at a point for each of the two rows.
use Rattle.std.specs.Prelude.{◌+◌, ◌-◌, ◌^◌, List, length, slice_index_or}
use Rattle.mlu_ring.specs.Ring.{Ring}
use Rattle.mlu_ring.specs.Sums.{sum_below, product_below}
use Rattle.mlu_ring.specs.Tables.{weight}

-- every bit goes from 1 to 0, so that the step is still to be made above them
abbrev pub carry_of : {R : Type 0} → Ring R → List R → List R → R
carry_of ring p r = product_below ring (length p) (λ i. ring.product (slice_index_or p i ring.zero) (ring.minus ring.one (slice_index_or r i ring.zero)))

-- the sum over every row but the last of its weight at p times that of the next row at r
abbrev pub done_of : {R : Type 0} → Ring R → List R → List R → R
done_of ring p r = sum_below ring (2 ^ length p - 1) (λ x. ring.product (weight ring p x) (weight ring r (x + 1)))

-- every bit is 1 and stays so: the last row is its own successor
abbrev pub last_of : {R : Type 0} → Ring R → List R → List R → R
last_of ring p r = product_below ring (length p) (λ i. ring.product (slice_index_or p i ring.zero) (slice_index_or r i ring.zero))
