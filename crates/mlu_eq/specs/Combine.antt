-- Two entries in one.
use Rattle.std.specs.Prelude.{List, map}
use Rattle.std.specs.Simd.Lanes.{zip2}
use Rattle.mlu_ring.specs.Ring.{Ring}

-- u times the one plus c times the other
abbrev pub combined : {R : Type 0} → Ring R → R → R → R → R → R
combined ring u c a b = ring.sum (ring.product u a) (ring.product c b)

-- the point at r of the line from a to b
abbrev pub interpolated : {R : Type 0} → Ring R → R → R → R → R
interpolated ring r a b = combined ring (ring.minus ring.one r) r a b

-- place by place, the point at r of the line between the images of two entries
abbrev pub interpolated_images : {F R : Type 0} → Ring R → (F → R) → R → List F → List F → List R
interpolated_images ring embed r low high = zip2 (interpolated ring r) (map embed low) (map embed high)
