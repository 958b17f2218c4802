-- Rounds of sumcheck over two tables, and claims that fit them.
use Rattle.std.specs.Prelude.{◌≡◌, ◌≢◌, ◌<◌, ◌/◌, ℕ, suc, List, [], ◌∷◌, map, length, take, drop, slice_index_or, MatchOption}
use Rattle.std.specs.List.{range_with_len}
use Rattle.std.specs.Simd.Lanes.{zip2}
use Rattle.std.specs.declared.option.Option.{Option}
use Rattle.mlu_ring.specs.Ring.{Ring}
use Rattle.mlu_ring.specs.Tables.{pair, value, front, line, univariate}

-- the entries with the first variable at 0
abbrev pub lower : {R : Type 0} → List R → List R
lower e = take (length e / 2) e

-- those with the first variable at 1, less those with it at 0
abbrev pub rise : {R : Type 0} → Ring R → List R → List R
rise ring e = zip2 ring.minus (drop (length e / 2) e) (lower e)

-- the coefficients of 1, X and X^2 of the sum of the products of both tables, place by place, with the first variable at X
abbrev pub round : {R : Type 0} → Ring R → List R → List R → List R
round ring w e = pair ring (lower w) (lower e) ∷ ring.sum (pair ring (lower w) (rise ring e)) (pair ring (rise ring w) (lower e)) ∷ pair ring (rise ring w) (rise ring e) ∷ []

-- the table with its first variables at the challenges, folded at each in order
abbrev pub folded : {R : Type 0} → Ring R → List R → List R → List R
folded ring [] e = e
folded ring (r ∷ rs) e = folded ring rs (front ring (line ring r) e)

-- the round of both tables, folded at the first i challenges
abbrev pub round_at : {R : Type 0} → Ring R → List R → List R → List R → ℕ → List R
round_at ring w e challenges i = round ring (folded ring (take i challenges) w) (folded ring (take i challenges) e)

-- the rounds of both tables at the challenges, in order
abbrev pub rounds_of : {R : Type 0} → Ring R → List R → List R → List R → List (List R)
rounds_of ring w e challenges = map (round_at ring w e challenges) (range_with_len 0 (length challenges))

-- the values of the round at 0 and at 1 add up to the claim
abbrev pub AddsUpTo : {R : Type 0} → Ring R → R → List R → Type 0
AddsUpTo ring claim g = ring.sum (univariate ring g ring.zero) (univariate ring g ring.one) ≡ claim

-- the next claim: the round's value at the challenge where the round adds up to the claim, and none exactly where it does not
abbrev pub IsNextClaim : {R : Type 0} → Ring R → R → List R → R → Option R → Type 0
IsNextClaim ring claim g challenge result = MatchOption result (AddsUpTo ring claim g → ⊥) (λ next. AddsUpTo ring claim g × (next ≡ univariate ring g challenge))

-- one claim more than rounds: each round adds up to the claim before it, and its value at its challenge is the next one
pub record Fit {R : Type 0} (ring : Ring R) (claims : List R) (rounds : List (List R)) (challenges : List R) : Type 0 where
  pub count : length claims ≡ suc (length rounds)
  pub adds_up : (i : ℕ) → i < length rounds → AddsUpTo ring (slice_index_or claims i ring.zero) (slice_index_or rounds i [])
  pub next : (i : ℕ) → i < length rounds → slice_index_or claims (suc i) ring.zero ≡ univariate ring (slice_index_or rounds i []) (slice_index_or challenges i ring.zero)

-- claims from the first to the last fit
abbrev pub FitFromTo : {R : Type 0} → Ring R → R → R → List (List R) → List R → Type 0
FitFromTo {R} ring first last rounds challenges = (claims : List R) × Fit ring (first ∷ claims) rounds challenges × (slice_index_or (first ∷ claims) (length rounds) ring.zero ≡ last)

-- the last claim where claims from the first one on fit, and none exactly where no claims do
abbrev pub IsLastClaim : {R : Type 0} → Ring R → R → List (List R) → List R → Option R → Type 0
IsLastClaim {R} ring first rounds challenges result =
    MatchOption result ((last : R) → FitFromTo ring first last rounds challenges → ⊥) (λ last. FitFromTo ring first last rounds challenges)

-- the product of both tables' values at the challenges
abbrev pub product_of_values : {R : Type 0} → Ring R → List R → List R → List R → R
product_of_values ring w e challenges = ring.product (value ring w challenges) (value ring e challenges)

-- the first claim is the sum of the products of both tables
abbrev pub BeginWithSum : {R : Type 0} → Ring R → List R → List R → List R → Type 0
BeginWithSum ring claims w e = slice_index_or claims 0 ring.zero ≡ pair ring w e

-- the last claim, after a round for each challenge, is the product of both tables' values
abbrev pub EndWithProduct : {R : Type 0} → Ring R → List R → List R → List R → List R → Type 0
EndWithProduct ring claims w e challenges = slice_index_or claims (length challenges) ring.zero ≡ product_of_values ring w e challenges

-- round i does not add up to the sum of the tables folded at the challenges before it, so it is not their round, and yet has its value at challenge i
pub record IsCaughtAt {R : Type 0} (ring : Ring R) (w e : List R) (rounds : List (List R)) (challenges : List R) (i : ℕ) : Type 0 where
  pub within : i < length challenges
  pub wrong : AddsUpTo ring (pair ring (folded ring (take i challenges) w) (folded ring (take i challenges) e)) (slice_index_or rounds i []) → ⊥
  pub other : slice_index_or rounds i [] ≢ round_at ring w e challenges i
  pub same : univariate ring (slice_index_or rounds i []) (slice_index_or challenges i ring.zero) ≡ univariate ring (round_at ring w e challenges i) (slice_index_or challenges i ring.zero)
