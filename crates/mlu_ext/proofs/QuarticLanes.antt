-- The elements of a packed polynomial, by its coefficients.
use Rattle.std.specs.Prelude.{◌≡◌, ◌<◌, ℕ, List, length, slice_index_or}
use Rattle.std.proofs.Common.{zero, suc, arith}
use Rattle.mlu_ring.proofs.Tabulated.{get_or-tabulate}
use Rattle.mlu_lanes.specs.LaneRing.{values_of, splat}
use Rattle.mlu_lanes.specs.declared.lanes.Lanes.{Lanes}
use Rattle.mlu_ring.specs.Columns.{column_of}
use Rattle.mlu_ext.specs.Quartic.{quartic_coefficients}
use Rattle.mlu_ext.specs.QuarticPacked.{quartic_layout, quartic_elements, quartic_lane}
use Rattle.mlu_ext.specs.declared.quartic.QuarticExtension.{QuarticExtension}
use Rattle.mlu_ext.proofs.Transposed.{elements-of_columns}

-- the coefficients, one by one
columns : {F : Type 0} (W : ℕ) (z : F) (p : QuarticExtension (Lanes F W)) (xs : List (QuarticExtension F))
    → values_of p.c0 ≡ column_of z quartic_coefficients xs 0 → values_of p.c1 ≡ column_of z quartic_coefficients xs 1
    → values_of p.c2 ≡ column_of z quartic_coefficients xs 2 → values_of p.c3 ≡ column_of z quartic_coefficients xs 3
    → (c : ℕ) → c < 4 → values_of (slice_index_or (quartic_coefficients p) c (splat W z)) ≡ column_of z quartic_coefficients xs c
columns W z p xs e0 e1 e2 e3 zero h = e0
columns W z p xs e0 e1 e2 e3 (suc zero) h = e1
columns W z p xs e0 e1 e2 e3 (suc (suc zero)) h = e2
columns W z p xs e0 e1 e2 e3 (suc (suc (suc zero))) h = e3
columns W z p xs e0 e1 e2 e3 (suc (suc (suc (suc c)))) h = absurd (omega arith)

module _ {F : Type 0} (W : ℕ) (zero : F) where
  pub quartic-of_lane : (p : QuarticExtension (Lanes F W)) (k : ℕ) (e : QuarticExtension F) → k < W
      → slice_index_or (quartic_elements W zero p) k e ≡ quartic_lane W zero p k
  quartic-of_lane p k e below = get_or-tabulate W (quartic_lane W zero p) k e below

  pub quartic-of_columns : (p : QuarticExtension (Lanes F W)) (xs : List (QuarticExtension F)) → length xs ≡ W
      → values_of p.c0 ≡ column_of zero quartic_coefficients xs 0 → values_of p.c1 ≡ column_of zero quartic_coefficients xs 1
      → values_of p.c2 ≡ column_of zero quartic_coefficients xs 2 → values_of p.c3 ≡ column_of zero quartic_coefficients xs 3
      → quartic_elements W zero p ≡ xs
  quartic-of_columns p xs long e0 e1 e2 e3 =
      elements-of_columns zero (quartic_layout W zero) p xs (splat W zero) long (columns W zero p xs e0 e1 e2 e3)
