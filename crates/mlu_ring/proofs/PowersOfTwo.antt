-- Powers of two that fit a word, as lengths of tables.
use Rattle.std.proofs.Common.{List, length, take, length-take, ◌≡◌, ℕ, zero, suc, ◌+◌, ◌*◌, ◌/◌, ◌%◌, ◌^◌, ◌<◌, arith, refl, ap, ◌∙◌, sym, subst, rules}
use Rattle.std.specs.Prelude.{IsTrue, count_ones}
use Rattle.std.specs.Int.{is_power_of_two}
use Rattle.std.specs.Int.Count.{count_trailing_zeros}
use Rattle.std.proofs.lemmas.Nat.{ones_le_self, zero_from_ones}
use Rattle.std.proofs.Math.Pow.{pow_mono, pow-lt}
use lib.Count.{ones_step, ones-ones}

-- the exponent of a power of two that fits a word is below its bits
pub exponent_fits : (k : ℕ) → 2 ^ k < 2 ^ 64 → k < 64
exponent_fits k h = grind (arith, pow_mono {i = 64} {j = k})

pub power_injective : (j k : ℕ) → 2 ^ j ≡ 2 ^ k → j ≡ k
power_injective j k e = grind (arith, pow-lt {i = j} {j = k}, pow-lt {i = k} {j = j}, e)

even_power : (k : ℕ) → 2 ^ suc k % 2 ≡ 0
even_power k = omega arith

halved_power : (k : ℕ) → 2 ^ suc k / 2 ≡ 2 ^ k
halved_power k = omega arith

-- the trailing zeros of a power of two are its exponent
pub count_trailing_zeros-power : (w k : ℕ) → k < w → count_trailing_zeros w (2 ^ k) ≡ k
unfolding count_trailing_zeros
count_trailing_zeros-power zero k h = absurd (omega arith)
count_trailing_zeros-power (suc w) zero h = refl
count_trailing_zeros-power (suc w) (suc k) h = rw (even_power k, halved_power k, count_trailing_zeros-power w k (omega (arith, h))) refl

-- a number with one digit set is a power of two
one_digit : (k n : ℕ) → n < 2 ^ k → count_ones n ≡ 1 → (j : ℕ) × (n ≡ 2 ^ j)
one_digit zero n h e = absurd (omega (arith, ones_le_self n, e, h))
one_digit (suc k) n h e = by_lowest (λ f g. one_digit k (n / 2) f g) (n % 2) refl
  where
    by_lowest : (n / 2 < 2 ^ k → count_ones (n / 2) ≡ 1 → (j : ℕ) × (n / 2 ≡ 2 ^ j)) → (b : ℕ) → n % 2 ≡ b → (j : ℕ) × (n ≡ 2 ^ j)
    by_lowest half zero low = let rest = half (omega (arith, h)) (omega (arith, ones_step n, e, low)) in (suc rest.0, omega (arith, rest.1, low))
    by_lowest half (suc zero) low = (zero, omega (arith, zero_from_ones (n / 2) (omega (arith, ones_step n, e, low)), low))
    by_lowest half (suc (suc b)) low = absurd (omega arith)

count_ones-power : (j : ℕ) → count_ones (2 ^ j) ≡ 1
count_ones-power zero = ones-ones 1
count_ones-power (suc j) = omega (arith, ones_step (2 ^ suc j), even_power j, subst (λ m. count_ones m ≡ 1) (sym (halved_power j)) (count_ones-power j))

-- what std's test of a number says of one that is a power of two
pub is_power_of_two-power : (n k : ℕ) → n ≡ 2 ^ k → IsTrue (is_power_of_two n)
is_power_of_two-power n k e = rw e (rw (count_ones-power k) (search rules))

-- and what it says where it holds
pub power_of_test : (n : ℕ) → n < 2 ^ 64 → IsTrue (is_power_of_two n) → n ≡ 2 ^ count_trailing_zeros 64 n
power_of_test n fits t =
    let one = one_digit 64 n fits (search rules) in
    let small : one.0 < 64 = exponent_fits one.0 (subst (λ m. m < 2 ^ 64) one.1 fits) in
    one.1 ∙ ap (λ j. 2 ^ j) (sym (ap (λ m. count_trailing_zeros 64 m) one.1 ∙ count_trailing_zeros-power 64 one.0 small))

-- half of a power of two above 1 is one, and twice it is the whole
pub half_power : (n k : ℕ) → n ≡ 2 ^ k → 1 < n → (j : ℕ) × (n / 2 ≡ 2 ^ j) × (n ≡ n / 2 + n / 2)
half_power n zero e h = absurd (omega arith)
half_power n (suc k) e h = (k, omega arith, omega arith)

-- what `1 << k` gives where it fits
pub shifted : (k : ℕ) → 2 ^ k < 2 ^ 64 → (1 * 2 ^ k) % 2 ^ 64 ≡ 2 ^ k
shifted k h = omega (arith, h)

-- half of the entries of a table
pub is_power_of_two-half : {X : Type 0} (xs : List X) (n : ℕ) → n ≡ length xs → n < 2 ^ 64 → IsTrue (is_power_of_two (length xs)) → 1 < length xs → IsTrue (is_power_of_two (length (take (n / 2) xs)))
is_power_of_two-half xs n e fits test more =
    let half = half_power (length xs) _ (power_of_test (length xs) (subst (λ m. m < 2 ^ 64) e fits) test) more in
    is_power_of_two-power _ half.0 (omega (arith, e, half.1, half.2, length-take (n / 2) xs))
