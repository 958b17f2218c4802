-- Sums of products of two columns of coefficients.
use Rattle.std.specs.Prelude.{ℕ, List}
use Rattle.mlu_ring.specs.Columns.{column_of}
use Rattle.mlu_ring.specs.Ring.{Ring}
use Rattle.mlu_ring.specs.Tables.{pair}

-- coefficient a of each element of l times coefficient j of that of r, added up
abbrev pub product_of_columns : {E F : Type 0} → Ring F → (E → List F) → List E → ℕ → List E → ℕ → F
product_of_columns ring coefficients l a r j = pair ring (column_of ring.zero coefficients l a) (column_of ring.zero coefficients r j)
