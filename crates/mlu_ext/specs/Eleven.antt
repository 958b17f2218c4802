-- The ring element eleven.
use Rattle.mlu_ring.specs.Ring.{Ring}
use Rattle.mlu_ring.specs.Sums.{sum_below}

-- one, added up eleven times
unfoldable pub eleven : {R : Type 0} → Ring R → R
eleven ring = sum_below ring 11 (λ k. ring.one)
