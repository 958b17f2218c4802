-- The weight of one vertex.
use Rattle.std.specs.Prelude.{◌≡◌, ℕ, ◌^◌, ◌<◌, ◌≤◌, List, Option, length, MatchOption}
use Rattle.mlu_ring.specs.Ring.{Ring}
use Rattle.mlu_ring.specs.Tables.{weight}

-- the weight of the vertex, and none exactly where the cube has no such vertex
abbrev pub IsWeightAt : {R : Type 0} → Ring R → List R → ℕ → Option R → Type 0
IsWeightAt ring p vertex w = MatchOption w (2 ^ length p ≤ vertex) (λ w. (vertex < 2 ^ length p) × (w ≡ weight ring p vertex))
