-- Packed residues, lane by lane.
use Rattle.std.specs.Prelude.{◌≡◌, ℕ, ◌+◌, ◌*◌, List, slice_index_or}
use Rattle.std.specs.Borrow.{Bor}
use Rattle.mlu_lanes.specs.BabyBear.{canonical, reduced}
use Rattle.mlu_lanes.specs.LaneRing.{values_of}
use Rattle.mlu_lanes.specs.declared.baby_bear.BabyBear.{BabyBear}
use Rattle.mlu_lanes.specs.declared.lanes.Lanes.{Lanes}

-- the least residue of lane j
abbrev pub residue : {W : ℕ} → Lanes (BabyBear W) W → ℕ → ℕ
residue p j = canonical (slice_index_or (values_of p) j (reduced 0))

-- that of entry k
abbrev pub residue_at : {W : ℕ} → List (BabyBear W) → ℕ → ℕ
residue_at elements k = canonical (slice_index_or elements k (reduced 0))

-- the product of those of entry k of two lists, as an integer
abbrev pub product_at : {W : ℕ} → List (BabyBear W) → List (BabyBear W) → ℕ → ℕ
product_at l r k = residue_at l k * residue_at r k

-- the products at place j of each of four groups of four from k on, added up
abbrev pub group_products : {W : ℕ} → List (BabyBear W) → List (BabyBear W) → ℕ → ℕ → ℕ
group_products l r k j = product_at l r (k + j) + product_at l r (k + 4 + j) + (product_at l r (k + 8 + j) + product_at l r (k + 12 + j))

-- the least residues of four elements
abbrev pub residues : {W : ℕ} → BabyBear W × BabyBear W × BabyBear W × BabyBear W → ℕ × ℕ × ℕ × ℕ
residues l = (canonical l.0, canonical l.1, canonical l.2, canonical l.3)

-- those of entry k of each of four slices
abbrev pub residues_at : {W : ℕ} → Bor (List (BabyBear W)) × Bor (List (BabyBear W)) × Bor (List (BabyBear W)) × Bor (List (BabyBear W)) → ℕ → ℕ × ℕ × ℕ × ℕ
residues_at l k = (residue_at l.0.now k, residue_at l.1.now k, residue_at l.2.now k, residue_at l.3.now k)

-- these are lane k of four packed values
abbrev pub IsLane : {W : ℕ} → Lanes (BabyBear W) W → Lanes (BabyBear W) W → Lanes (BabyBear W) W → Lanes (BabyBear W) W → ℕ → BabyBear W × BabyBear W × BabyBear W × BabyBear W → Type 0
IsLane p q r s k four =
    (four.0 ≡ slice_index_or (values_of p) k (reduced 0)) × (four.1 ≡ slice_index_or (values_of q) k (reduced 0))
    × (four.2 ≡ slice_index_or (values_of r) k (reduced 0)) × (four.3 ≡ slice_index_or (values_of s) k (reduced 0))
