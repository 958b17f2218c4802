-- Coefficients of the elements of a list.
use Rattle.std.specs.Prelude.{ℕ, List, map, slice_index_or}

-- coefficient c of each element, where zero stands past the last
abbrev pub column_of : {E F : Type 0} → F → (E → List F) → List E → ℕ → List F
column_of zero coefficients xs c = map (λ x. slice_index_or (coefficients x) c zero) xs
