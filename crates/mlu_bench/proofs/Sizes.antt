-- Tables of fewer than 32 variables.
use Rattle.std.proofs.Common.{ℕ, ◌^◌, ◌-◌, ◌<◌, arith}
use Rattle.std.proofs.Math.Pow.{pow_mono}

pub fits : (n : ℕ) → n < 32 → 2 ^ n < 2 ^ 64
fits n h = grind (arith, pow_mono {i = n} {j = 31}, h)

pub below_fits : (n k : ℕ) → n < 32 → 2 ^ (n - k) < 2 ^ 64
below_fits n k h = fits (n - k) (omega (arith, h))
