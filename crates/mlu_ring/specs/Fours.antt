-- Four values, and four lists side by side.
use Rattle.std.specs.Prelude.{◌≡◌, ◌<◌, ℕ, List, [], ◌∷◌, length, slice_index_or}
use Rattle.std.specs.Borrow.{Bor}
use Rattle.mlu_ring.specs.Ring.{Ring}
use Rattle.mlu_ring.specs.Tables.{pair}

-- the four as a list
abbrev pub in_order : {A : Type 0} → A × A × A × A → List A
in_order t = t.0 ∷ t.1 ∷ t.2 ∷ t.3 ∷ []

-- each of the four has n entries
abbrev pub AreLong : {A : Type 0} → ℕ → Bor (List A) × Bor (List A) × Bor (List A) × Bor (List A) → Type 0
AreLong n l = (length l.0.now ≡ n) × (length l.1.now ≡ n) × (length l.2.now ≡ n) × (length l.3.now ≡ n)

-- entry k of each, or d past the end
abbrev pub places : {A : Type 0} → List A → List A → List A → List A → ℕ → A → List A
places w x y z k d = slice_index_or w k d ∷ slice_index_or x k d ∷ slice_index_or y k d ∷ slice_index_or z k d ∷ []

-- each new entry is the sum of the products of the four left entries in its place with the four right ones
abbrev pub AreSumsOfFour : {R : Type 0} → Ring R → Bor (List R) × Bor (List R) × Bor (List R) × Bor (List R) → Bor (List R) × Bor (List R) × Bor (List R) × Bor (List R) → List R → List R → Type 0
AreSumsOfFour ring l r old new = (k : ℕ) → k < length old
    → slice_index_or new k ring.zero ≡ pair ring (places l.0.now l.1.now l.2.now l.3.now k ring.zero) (places r.0.now r.1.now r.2.now r.3.now k ring.zero)

-- the same where the right entries are those of one column
abbrev pub AreRowsTimes : {R : Type 0} → Ring R → Bor (List R) × Bor (List R) × Bor (List R) × Bor (List R) → List R → List R → List R → Type 0
AreRowsTimes ring l column old new = (k : ℕ) → k < length old
    → slice_index_or new k ring.zero ≡ pair ring (places l.0.now l.1.now l.2.now l.3.now k ring.zero) column
