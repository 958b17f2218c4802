-- The integers modulo 2013265921, as values of `BabyBear`.
use Rattle.std.specs.Prelude.{◌≡◌, ℕ, ◌+◌, ◌*◌, ◌%◌, ◌^◌, ◌<◌}
use Rattle.std.proofs.Common.{refl, lit<}
use Rattle.std.proofs.Math.Nat.{mod-lt}
use Rattle.std.specs.Coded.{le_prop}
use mathlib.Core.HLevel.{is_prop→PathP}
use Rattle.mlu_ring.specs.Ring.{Ring, RingLaws}
use Rattle.mlu_lanes.specs.Residues.{IsResidues, residue_ring, residue_laws}
use Rattle.mlu_lanes.specs.declared.baby_bear.BabyBear.{BabyBear}
use Rattle.mlu_lanes.specs.declared.baby_bear.TheConstants.{MODULUS}

-- the prime, whatever the code calls it
pub modulus_is : MODULUS ≡ 15 * 2 ^ 27 + 1
modulus_is = refl

module _ {W : ℕ} where
  -- the least residue
  abbrev pub canonical : BabyBear W → ℕ
  canonical a = a.value

  pub canonical_below : (a : BabyBear W) → canonical a < MODULUS
  canonical_below a = a.below

  pub same_canonical : (a b : BabyBear W) → canonical a ≡ canonical b → a ≡ b
  same_canonical a b e = λ i. record { value = e i; below = is_prop→PathP (λ j. e j < MODULUS) (λ j. le_prop) a.below b.below i }

  -- the residue of n
  abbrev pub reduced : ℕ → BabyBear W
  reduced n = record { value = n % MODULUS; below = mod-lt n (lit< tt) }

  pub canonical_are_residues : IsResidues MODULUS canonical reduced
  canonical_are_residues = record {
    value-residue = λ n. refl;
    same_value = same_canonical;
    value_below = canonical_below;
  }

-- q is n over 2^32, modulo 2013265921: q times 2^32 has the residue of n
abbrev pub IsQuotient : ℕ → ℕ → Type 0
IsQuotient q n = q * 2 ^ 32 % MODULUS ≡ n % MODULUS

-- sums and products of integers, modulo 2013265921
abbrev pub baby_bear_ring : (W : ℕ) → Ring (BabyBear W)
baby_bear_ring W = residue_ring MODULUS canonical reduced

pub baby_bear_laws : (W : ℕ) → RingLaws (baby_bear_ring W)
baby_bear_laws W = residue_laws canonical_are_residues
