-- Factors of a value at a point, one for each coordinate.
use Rattle.mlu_ring.specs.Ring.{Ring}

-- both coordinates are one, or both are zero
abbrev pub eq_factor : {B R : Type 0} → Ring B → Ring R → (B → R) → B → R → R
eq_factor base ring embed p q = ring.sum (ring.product (ring.minus ring.one q) (embed (base.minus base.one p))) (ring.product q (embed p))

-- the power where the coordinate is one, and one where it is zero
abbrev pub power_factor : {B R : Type 0} → Ring B → Ring R → (B → R) → R → B → R
power_factor base ring embed c p = ring.sum (ring.product c (embed (base.minus p base.one))) ring.one
