-- Weights split by a coordinate of their point.
use Rattle.std.specs.Prelude.{◌++◌, List, map}
use Rattle.mlu_ring.specs.Ring.{Ring}

-- what the coordinate c takes of a weight
abbrev pub share_of : {R : Type 0} → Ring R → R → R → R
share_of ring c w = ring.product w c

-- what it leaves of it
abbrev pub rest_of : {R : Type 0} → Ring R → R → R → R
rest_of ring c w = ring.minus w (ring.product w c)

-- what is left of each weight, and then the shares
abbrev pub split_by : {R : Type 0} → Ring R → R → List R → List R
split_by ring c w = map (rest_of ring c) w ++ map (share_of ring c) w
