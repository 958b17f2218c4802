-- What a batch writes, and how it splits its scalars.
use Rattle.std.specs.Prelude.{◌≡◌, ℕ, ◌+◌, ◌-◌, ◌*◌, ◌/◌, ◌^◌, ◌<◌, ◌≤◌, Bool, List, [], ◌∷◌, ◌++◌, length, map, slice_index_or, if◌then◌else◌}
use Rattle.mlu_ring.specs.Shares.{rest_of, share_of}
use Rattle.mlu_ring.specs.Ring.{Ring}
use Rattle.mlu_ring.specs.Lanes.{logical}
use Rattle.mlu_ring.specs.Matrices.{batch, column, left_by, row_at}
use Rattle.mlu_ring.specs.Tables.{weights}
use Rattle.mlu_ring.specs.declared.matrix.RowMajorMatrixView.{RowMajorMatrixView}

-- the output with the batch of the points in the columns of the values: the batch itself, or its sums with what stood there
abbrev pub with_batch : {R : Type 0} → Ring R → Bool → List R → List R → List R → List R
with_batch ring adds out values scalars = left_by ring adds out (batch ring values scalars (length out))

-- the output after a call, which leaves it as before where it fails
abbrev pub after_batch : {R : Type 0} → Ring R → Bool → Bool → List R → List R → List R → List R
after_batch ring succeeds adds out values scalars = if succeeds then with_batch ring adds out values scalars else out

-- the share of a scalar that goes to the vertices with 1 at a coordinate
abbrev pub upper_share : {C R : Type 0} → Ring R → (C → R) → R → C → R
upper_share ring image scalar c = share_of ring (image c) scalar

-- what of it is left for those with 0 there
abbrev pub lower_share : {C R : Type 0} → Ring R → (C → R) → R → C → R
lower_share ring image scalar c = rest_of ring (image c) scalar

-- entry i of the shares is that of scalar i at coordinate i
abbrev pub AreShares : {C R : Type 0} → (R → C → R) → List R → List R → List C → Type 0
AreShares {C} {R} share shares scalars coordinates = (i : ℕ) (d : R) (c : C) → i < length scalars → slice_index_or shares i d ≡ share (slice_index_or scalars i d) (slice_index_or coordinates i c)

-- the four entries from `start` on are the shares of the scalars there at one coordinate
abbrev pub AreFourShares : {C R : Type 0} → (R → C → R) → List R → List R → ℕ → C → Type 0
AreFourShares {C} {R} share shares scalars start coordinate = (k : ℕ) (d : R) → start ≤ k → k < start + 4 → slice_index_or shares k d ≡ share (slice_index_or scalars k d) coordinate

-- the elements two by two; of an odd number the last is left out
abbrev pub pairs : {A : Type 0} → List A → List (A × A)
pairs [] = []
pairs (a ∷ []) = []
pairs (a ∷ b ∷ xs) = (a, b) ∷ pairs xs

-- pairs of elements of a ring, place by place
abbrev pub pair_ring : {R : Type 0} → Ring R → Ring (R × R)
pair_ring ring = record {
  zero = (ring.zero, ring.zero);
  one = (ring.one, ring.one);
  sum = λ p q. (ring.sum p.0 q.0, ring.sum p.1 q.1);
  minus = λ p q. (ring.minus p.0 q.0, ring.minus p.1 q.1);
  negation = λ p. (ring.negation p.0, ring.negation p.1);
  product = λ p q. (ring.product p.0 q.0, ring.product p.1 q.1);
}

-- the lanes of the first and then those of the second
abbrev pub pair_lanes : {P V : Type 0} → (P → List V) → P × P → List V
pair_lanes lanes p = lanes p.0 ++ lanes p.1

-- the image twice
abbrev pub pair_image : {C P : Type 0} → (C → P) → C → P × P
pair_image image c = (image c, image c)

-- four elements, two by two
abbrev pub two_pairs : {A : Type 0} → A × A × A × A → (A × A) × (A × A)
two_pairs four = ((four.0, four.1), (four.2, four.3))

-- the elements four by four
abbrev pub fours : {A : Type 0} → List A → List ((A × A) × (A × A))
fours xs = pairs (pairs xs)

-- fours of elements of a ring, place by place
abbrev pub four_ring : {R : Type 0} → Ring R → Ring ((R × R) × (R × R))
four_ring ring = pair_ring (pair_ring ring)

-- the lanes of four values, joined in order
abbrev pub four_lanes : {P V : Type 0} → (P → List V) → (P × P) × (P × P) → List V
four_lanes lanes = pair_lanes (pair_lanes lanes)

-- the image four times
abbrev pub four_image : {C P : Type 0} → (C → P) → C → (P × P) × (P × P)
four_image image = pair_image (pair_image image)

-- the lanes, joined in order, of the batch of the points in the columns of a view, where the share of each is four packed values
abbrev pub groups : {C P V : Type 0} → (P → List V) → Ring P → (C → P) → RowMajorMatrixView C → List P → List V
groups lanes ring image evals shares =
    logical (four_lanes lanes) (batch (four_ring ring) (map (four_image image) evals.values.now) (fours shares) (2 ^ (length evals.values.now / evals.width)))

-- the scale times each weight at the point in column i of values in rows of so many
abbrev pub column_weights : {R : Type 0} → Ring R → R → List R → ℕ → ℕ → List R
column_weights ring scale values points i = map (λ w. ring.product scale w) (weights ring (column ring values points i))

-- the lanes of the four values of share i, joined in order, are scalar i times the weights at its point
abbrev pub ArePacked : {P R : Type 0} → Ring R → (P → List R) → List P → List R → List R → Type 0
ArePacked ring lanes shares scalars values = (i : ℕ) → i < length scalars
    → logical lanes (row_at 4 shares i) ≡ column_weights ring (slice_index_or scalars i ring.zero) values (length scalars) i

-- the places for packed shares: four for each point, and four more for each of its coordinates that stands neither for lanes nor for the four values
abbrev pub share_places : ℕ → ℕ → ℕ → ℕ
share_places log_width variables points = 4 * ((variables - (log_width + 2)) * points + points)

-- the room for packed shares where so many variables are left to them: a buffer for the lanes of four, and their places
abbrev pub IsRoom : {R P : Type 0} → ℕ → ℕ → ℕ → List R → List R → List P → Type 0
IsRoom width log_width variables scalars lanes packed =
    0 < variables → (log_width + 2 ≤ variables) × (length lanes ≡ 4 * width) × (length packed ≡ share_places log_width variables (length scalars))
