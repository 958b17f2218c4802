use Rattle.std.proofs.Common.{◌≡◌, ◌^◌, ◌≤◌, ◌<◌, ◌*◌, ℕ, suc, ◌+◌, ◌-◌, arith, rules}
use Rattle.std.proofs.lemmas.Nat.{leading_length, pow_pos}
use Rattle.std.proofs.Math.Pow.{pow_mono}
use lib.Count.{count_leading_zeros}
use Rattle.mlu_ring.proofs.logarithm.log2_ceil_usize.Goals as goal

bits_of : (m : ℕ) → m < 2 ^ 64 → (m < 2 ^ (64 - count_leading_zeros 64 m)) × (2 ^ (64 - count_leading_zeros 64 m) ≤ 2 * m + 1)
bits_of m fits =
    let found = leading_length 64 m fits in
    let exponent : 64 - count_leading_zeros 64 m ≡ found.0 = omega (arith, found.1) in
    rw exponent (found.2, found.3)

least : (n m l k : ℕ) → m ≡ n - 1 → 2 ^ k ≤ 2 * m + 1 → n ≤ 2 ^ l → k ≤ l
least n m l k is above h = grind (arith, pow_pos l, pow_mono {i = suc l} {j = k})

pub returns-clause-enough : goal.returns-clause-enough
returns-clause-enough c = omega (arith, c.saturating_sub.ensures, (bits_of c.saturating_sub.result (search rules)).0)

pub returns-clause-least : goal.returns-clause-least
returns-clause-least c = λ l h. least c.args.n c.saturating_sub.result l _ c.saturating_sub.ensures (bits_of c.saturating_sub.result (search rules)).1 h
