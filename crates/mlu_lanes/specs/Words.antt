-- Vectors of four words.
use Rattle.std.specs.Prelude.{◌≡◌, ℕ, ◌+◌, ◌*◌, List, slice_index}

-- the words of the lanes, in order
abbrev pub AreEntries : List ℕ → ℕ → ℕ → ℕ → ℕ → Type 0
AreEntries words first second third fourth = (slice_index words 0 ≡ first) × (slice_index words 1 ≡ second) × (slice_index words 2 ≡ third) × (slice_index words 3 ≡ fourth)

-- the words are entry j of each of four rows
abbrev pub IsColumn : List ℕ → List ℕ → List ℕ → List ℕ → List ℕ → ℕ → Type 0
IsColumn words first second third fourth j = AreEntries words (slice_index first j) (slice_index second j) (slice_index third j) (slice_index fourth j)

-- lane j of each of four vectors
abbrev pub lanes_at : List ℕ × List ℕ × List ℕ × List ℕ → ℕ → ℕ × ℕ × ℕ × ℕ
lanes_at rows j = (slice_index rows.0 j, slice_index rows.1 j, slice_index rows.2 j, slice_index rows.3 j)

-- the first four words
abbrev pub first_four : List ℕ → ℕ × ℕ × ℕ × ℕ
first_four words = (slice_index words 0, slice_index words 1, slice_index words 2, slice_index words 3)

-- the products of four numbers with four others, place by place, added up
abbrev pub four_products : ℕ × ℕ × ℕ × ℕ → ℕ × ℕ × ℕ × ℕ → ℕ
four_products l r = l.0 * r.0 + l.1 * r.1 + (l.2 * r.2 + l.3 * r.3)
