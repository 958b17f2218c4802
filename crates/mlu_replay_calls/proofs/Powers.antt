-- Sizes of tables by the numbers of their variables.
use Rattle.std.proofs.Common.{◌≡◌, ℕ, ◌+◌, ◌-◌, ◌*◌, ◌/◌, ◌^◌, ◌<◌, ◌≤◌, sym, ap, ◌∙◌, subst, arith, pow-add}
use Rattle.std.proofs.Math.Pow.{pow_mono}
use Rattle.multilinear_util.proofs.Splits.{half_fits, power_within}

-- a table of so few variables fits a word
pub power_fits : (n : ℕ) → n ≤ 24 → 2 ^ n < 2 ^ 64
power_fits n le = grind (arith, pow_mono {i = n} {j = 24}, le)

-- and so does the table of half of its variables
pub half_power_fits : (n : ℕ) → 2 ^ n < 2 ^ 64 → 2 ^ (n - n / 2) < 2 ^ 64
half_power_fits n fits = half_fits n (2 ^ n) (omega arith) fits

-- a table grows to no fewer variables
pub grown : (e v n : ℕ) → e ≡ 2 ^ v → v ≤ n → e ≤ 2 ^ n
grown e v n size le = subst (λ m. m ≤ 2 ^ n) (sym size) (power_within v n le)

-- a table of part of the variables is no larger
pub part_within : (c e k v : ℕ) → c ≡ 2 ^ k → e ≡ 2 ^ v → k ≤ v → c ≤ e
part_within c e k v part size le = subst (λ m. c ≤ m) (sym size) (grown c k v part le)

-- nor is it where each of its entries counts as often as there are lanes, which stand for other variables
pub part_with_lanes : (w k v l left : ℕ) → w ≡ 2 ^ l → v ≡ left + l → k ≤ left → 2 ^ k * w ≤ 2 ^ v
part_with_lanes w k v l left width rest le =
    let product : 2 ^ k * w ≡ 2 ^ (k + l) = ap (λ m. 2 ^ k * m) width ∙ sym (pow-add 2 k l) in
    subst (λ n. n ≤ 2 ^ v) (sym product) (power_within (k + l) v (omega (arith, rest, le)))

-- a table is as large as two whose variables together are as many
pub product_of_parts : (v m k : ℕ) → v ≡ m + k → 2 ^ v ≡ 2 ^ m * 2 ^ k
product_of_parts v m k sum = ap (λ j. 2 ^ j) sum ∙ pow-add 2 m k
