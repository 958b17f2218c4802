-- The integers modulo 2^64, as values of `WrappingU64`.
use Rattle.std.specs.Prelude.{◌≡◌, ℕ, ◌%◌, ◌^◌, ◌<◌}
use Rattle.std.proofs.Common.{refl, lit<}
use Rattle.std.proofs.Math.Nat.{mod-lt}
use Rattle.std.specs.Coded.{le_prop}
use mathlib.Core.HLevel.{is_prop→PathP}
use Rattle.mlu_ring.specs.Ring.{Ring, RingLaws}
use Rattle.mlu_lanes.specs.Residues.{IsResidues, residue_ring, residue_laws}
use Rattle.mlu_lanes.specs.declared.wrapping.WrappingU64.{WrappingU64}

module _ {W : ℕ} where
  -- the integer below 2^64
  abbrev pub number : WrappingU64 W → ℕ
  number a = a.value

  pub same_number : (a b : WrappingU64 W) → number a ≡ number b → a ≡ b
  same_number a b e = λ i. record { value = e i; below = is_prop→PathP (λ j. e j < 2 ^ 64) (λ j. le_prop) a.below b.below i }

  -- the residue of n
  abbrev pub wrapped : ℕ → WrappingU64 W
  wrapped n = record { value = n % 2 ^ 64; below = mod-lt n (lit< tt) }

  pub numbers_are_residues : IsResidues (2 ^ 64) number wrapped
  numbers_are_residues = record {
    value-residue = λ n. refl;
    same_value = same_number;
    value_below = λ a. a.below;
  }

-- sums and products of integers, modulo 2^64
abbrev pub wrapping_ring : (W : ℕ) → Ring (WrappingU64 W)
wrapping_ring W = residue_ring (2 ^ 64) number wrapped

pub wrapping_laws : (W : ℕ) → RingLaws (wrapping_ring W)
wrapping_laws W = residue_laws numbers_are_residues
