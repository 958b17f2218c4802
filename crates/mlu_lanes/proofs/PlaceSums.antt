-- Sums of four products place by place, from residues that are reduced once.
use Rattle.std.proofs.Common.{◌≡◌, ℕ, ◌+◌, ◌*◌, ◌%◌, List, [], ◌∷◌, get_or}
use Rattle.mlu_ring.specs.Fours.{places}
use Rattle.mlu_ring.specs.Tables.{pair}
use Rattle.mlu_lanes.specs.BabyBear.{baby_bear_ring, canonical, reduced}
use Rattle.mlu_lanes.specs.Packed.{residue_at}
use Rattle.mlu_lanes.specs.declared.baby_bear.BabyBear.{BabyBear}
use Rattle.mlu_lanes.specs.declared.baby_bear.TheConstants.{MODULUS}
use Rattle.mlu_lanes.proofs.ResidueSums.{reduced_once}

module _ {W : ℕ} (a b c d p q r s : List (BabyBear W)) where
  -- the sum at place k
  abbrev pub sum_at : ℕ → BabyBear W
  sum_at k = pair (baby_bear_ring W) (places a b c d k (reduced 0)) (places p q r s k (reduced 0))

  pub sum_at_reduced : (k : ℕ) (x : BabyBear W)
      → canonical x
      ≡ (residue_at a k * residue_at p k + residue_at b k * residue_at q k + (residue_at c k * residue_at r k + residue_at d k * residue_at s k)) % MODULUS
      → x ≡ sum_at k
  sum_at_reduced k x is = reduced_once _ _ _ _ _ _ _ _ x is

-- the row at place k times a column
abbrev pub row_at_times : {W : ℕ} → List (BabyBear W) → List (BabyBear W) → List (BabyBear W) → List (BabyBear W) → BabyBear W → BabyBear W → BabyBear W
    → BabyBear W → ℕ → BabyBear W
row_at_times {W} a b c d p q r s k = pair (baby_bear_ring W) (places a b c d k (reduced 0)) (p ∷ q ∷ r ∷ s ∷ [])

-- the sum of the entries at place k
abbrev pub both_at : {W : ℕ} → List (BabyBear W) → List (BabyBear W) → ℕ → BabyBear W
both_at {W} a b k = (baby_bear_ring W).sum (get_or a k (reduced 0)) (get_or b k (reduced 0))
