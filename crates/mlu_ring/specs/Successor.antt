-- The successor of an index, and the table whose weights it has moved.
use Rattle.std.specs.Prelude.{ℕ, ◌∷◌, ◌+◌, ◌-◌, ◌==◌, List, map, length, take, slice_index_or, min, if◌then◌else◌}
use Rattle.std.specs.List.{range_with_len}
use Rattle.std.specs.Simd.Lanes.{zip2}
use Rattle.mlu_ring.specs.Ring.{Ring}
use Rattle.mlu_ring.specs.Sums.{sum_below}

-- the next of n indexes: the last is its own
abbrev pub successor : ℕ → ℕ → ℕ
successor n x = min (x + 1) (n - 1)

-- entry y is the sum of the entries of w at the indexes that go to y
unfoldable pub pushed : {R : Type 0} → Ring R → (ℕ → ℕ) → List R → List R
pushed ring to w =
    let n = length w in
    map (λ y. sum_below ring n (λ x. if to x == y then slice_index_or w x ring.zero else ring.zero)) (range_with_len 0 n)

-- entry y is the sum of the entries of w at the indexes whose successor is y
abbrev pub next : {R : Type 0} → Ring R → List R → List R
next ring w = pushed ring (successor (length w)) w

-- the list moved up by one place: x in front, and all of w but the last
abbrev pub moved_up : {A : Type 0} → A → List A → List A
moved_up x w = x ∷ take (length w - 1) w

-- zero in front of all weights but the last
abbrev pub shifted : {R : Type 0} → Ring R → List R → List R
shifted ring w = moved_up ring.zero w

-- each weight times a, plus the one before it times b, or plus the boundary for the first
abbrev pub next_chunk : {R : Type 0} → Ring R → R → R → R → List R → List R
next_chunk ring a b boundary w = zip2 ring.sum (map (ring.product a) w) (moved_up boundary (map (ring.product b) w))
