-- What the views of polynomials show.
use Rattle.std.specs.Prelude.{ℕ, List, length}
use Rattle.std.specs.Int.Count.{count_trailing_zeros}
use Rattle.mlu_ring.specs.Lanes.{logical}
use Rattle.multilinear_util.specs.declared.poly.view.PolyView.{PolyView}

-- the entries that a view borrows
abbrev pub entries : {F : Type 0} → PolyView F → List F
entries view = view.evals.now

-- the number of its variables: n, where there are 2 ^ n entries
abbrev pub variables : {F : Type 0} → PolyView F → ℕ
variables view = count_trailing_zeros 64 (length (entries view))

-- the lanes of the packed entries, joined in order
abbrev pub lanes_of : {Q V : Type 0} → (Q → List V) → PolyView Q → List V
lanes_of lanes view = logical lanes (entries view)
