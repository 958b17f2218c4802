-- The coefficients of packed weights, one list for each coefficient.
use Rattle.std.specs.Prelude.{◌≡◌, ◌<◌, ◌≤◌, ℕ, List, map, length, take}
use Rattle.std.specs.Borrow.{RattleType}
use Rattle.std.specs.List.{All, range_with_len}
use Rattle.std.specs.Mem.{type_size}
use Rattle.mlu_ring.specs.Columns.{column_of}
use Rattle.mlu_ring.specs.Lanes.{splat_of}
use Rattle.mlu_ring.specs.Ring.{Ring}
use Rattle.mlu_ring.specs.Tables.{pair}
use Rattle.mlu_kernel.specs.declared.basis_split.TheConstants.{MOST_WEIGHTS, MOST_COEFFICIENTS}
use Rattle.mlu_kernel.specs.declared.small.TheConstants.{SMALL_BYTES}

-- the columns of the first coefficients
abbrev pub columns : {Q P : Type 0} → (Q → List P) → P → List Q → ℕ → List (List P)
columns coefficients zero weights dimension = map (λ c. column_of zero coefficients weights c) (range_with_len 0 dimension)

-- the sum, plus the products of the blocks with factors that stand in every lane
abbrev pub grown : {F P : Type 0} → Ring P → ℕ → (List F → P) → P → List P → List F → P
grown ring width of_lanes sum blocks factors = ring.sum sum (pair ring blocks (map (splat_of width of_lanes) factors))

-- elements of the three types take few bytes
abbrev pub AreSmall : RattleType → RattleType → RattleType → Type 0
AreSmall base packing extension = (type_size base < SMALL_BYTES) × (type_size packing < SMALL_BYTES) × (type_size extension < SMALL_BYTES)

-- few and small enough for the stack, the columns begin with the coefficients of the weights
pub record AreColumns {Q P : Type 0} (coefficients : Q → List P) (zero : P) (dimension : ℕ) (packing : RattleType) (weights : List Q) (split : List (List P)) : Type 0 where
  pub some : 0 < dimension
  pub few : dimension ≤ MOST_COEFFICIENTS
  pub short : length weights ≤ MOST_WEIGHTS
  pub small : type_size packing < SMALL_BYTES
  pub long : length split ≡ dimension
  pub each : All (λ c. length c ≡ MOST_WEIGHTS) split
  pub begin : map (take (length weights)) split ≡ columns coefficients zero weights dimension
