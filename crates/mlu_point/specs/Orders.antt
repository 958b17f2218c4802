-- The two orders of an equality table.
use Rattle.std.specs.Prelude.{List, [], ◌∷◌, ◌++◌, map, flat_map}
use Rattle.mlu_ring.specs.Ring.{Ring}
use Rattle.mlu_ring.specs.Tables.{weights, lsb}
use Rattle.mlu_point.specs.declared.point.order.BitOrder.{BitOrder}
use Rattle.mlu_point.specs.declared.point.order.BitOrder.TheVariants.{Msb, Lsb}

-- the weights of all vertices in the order
abbrev pub weights_by : {R : Type 0} → BitOrder → Ring R → List R → List R
weights_by Msb ring p = weights ring p
weights_by Lsb ring p = lsb ring p

-- the point with the coordinate that reads the top bit of an index
abbrev pub with_top : {R : Type 0} → BitOrder → R → List R → List R
with_top Msb c p = c ∷ p
with_top Lsb c p = p ++ c ∷ []

-- the point whose high coordinates read the top bits of an index
abbrev pub joined_by : {R : Type 0} → BitOrder → List R → List R → List R
joined_by Msb high low = high ++ low
joined_by Lsb high low = low ++ high

-- the table times each of the scales in turn
abbrev pub scaled_by_each : {R : Type 0} → Ring R → List R → List R → List R
scaled_by_each ring table scales = flat_map (λ s. map (λ w. ring.product s w) table) scales
