-- The powers of an element as a table.
use Rattle.std.specs.Prelude.{ℕ, List, map}
use Rattle.std.specs.List.{range_with_len}
use Rattle.mlu_ring.specs.Ring.{Ring}
use Rattle.mlu_ring.specs.Tables.{power}

-- the first n powers of y: 1, y, y * y, ..
unfoldable pub powers_below : {R : Type 0} → Ring R → R → ℕ → List R
powers_below ring y n = map (power ring y) (range_with_len 0 n)
