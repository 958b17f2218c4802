-- Lengths of tables that are made of others: halves, groups of lanes, lanes.
use Rattle.std.proofs.Common.{◌≡◌, ℕ, zero, suc, ◌+◌, ◌-◌, ◌*◌, ◌/◌, ◌%◌, ◌^◌, ◌<◌, ◌≤◌, List, length, map, arith, ap, ◌∙◌, sym, subst, pow-add}
use Rattle.std.specs.Prelude.{IsTrue}
use Rattle.std.specs.Int.{is_power_of_two}
use Rattle.std.specs.Int.Count.{count_trailing_zeros}
use Rattle.std.proofs.lemmas.Nat.{pow_pos, div-mul-add}
use Rattle.std.proofs.Math.Nat.{mul-mod_left}
use Rattle.std.proofs.Math.Pow.{pow-lt}
use Rattle.std.proofs.lemmas.List.{length-map}
use Rattle.mlu_ring.specs.Ring.{Ring}
use Rattle.mlu_ring.specs.Tables.{line, front, back}
use Rattle.mlu_ring.proofs.Folds.{length-back}
use Rattle.mlu_ring.proofs.Univariate.{length-front}
use Rattle.mlu_ring.proofs.PowersOfTwo.{is_power_of_two-power, is_power_of_two-half, power_of_test, exponent_fits, half_power}

pub exponents : (k l : ℕ) → 2 ^ l ≤ 2 ^ k → l ≤ k
exponents k l h = grind (arith, pow-lt {i = k} {j = l})

-- 2 ^ k is a whole number of 2 ^ l, where it is no less
pub quotient_of_powers : (k l : ℕ) → 2 ^ l ≤ 2 ^ k → 2 ^ k ≡ 2 ^ (k - l) * 2 ^ l
quotient_of_powers k l h =
    let le : l ≤ k = exponents k l h in
    let e : k ≡ k - l + l = omega (arith, le) in
    ap (λ j. 2 ^ j) e ∙ pow-add 2 (k - l) l

module _ (n w l : ℕ) (fits : n < 2 ^ 64) (test : IsTrue (is_power_of_two n)) (width : w ≡ 2 ^ l) (wide : w ≤ n) where
  whole : n ≡ 2 ^ (count_trailing_zeros 64 n - l) * w
  whole =
      let power = power_of_test n fits test in
      let le : 2 ^ l ≤ 2 ^ count_trailing_zeros 64 n = subst (λ m. m ≤ 2 ^ count_trailing_zeros 64 n) width (subst (λ m. w ≤ m) power wide) in
      power ∙ quotient_of_powers (count_trailing_zeros 64 n) l le ∙ ap (λ m. 2 ^ (count_trailing_zeros 64 n - l) * m) (sym width)

  -- the values are whole groups of lanes
  pub power-mod-width : n % w ≡ 0
  power-mod-width = ap (λ m. m % w) whole ∙ mul-mod_left (2 ^ (count_trailing_zeros 64 n - l)) w

  -- and the number of the groups is a power of two
  pub power_of_groups : (m : ℕ) → m * w ≡ n → IsTrue (is_power_of_two m)
  power_of_groups m rows =
      let positive : 0 < w = subst (λ x. 0 < x) (sym width) (pow_pos l) in
      let one : m ≡ (m * w + 0) / w = sym (div-mul-add m w 0 positive) in
      let other : (2 ^ (count_trailing_zeros 64 n - l) * w + 0) / w ≡ 2 ^ (count_trailing_zeros 64 n - l) = div-mul-add (2 ^ (count_trailing_zeros 64 n - l)) w 0 positive in
      is_power_of_two-power m (count_trailing_zeros 64 n - l) (one ∙ ap (λ x. (x + 0) / w) (rows ∙ whole) ∙ other)

-- the trailing zeros of a power of two that fits a word are below its bits
pub zeros_of_power : (n : ℕ) → n < 2 ^ 64 → IsTrue (is_power_of_two n) → count_trailing_zeros 64 n < 64
zeros_of_power n fits test = exponent_fits _ (subst (λ m. m < 2 ^ 64) (power_of_test n fits test) fits)

-- what std's test says of a number that is a power of two
pub ruleset power_of_size = (is_power_of_two-power)

-- the first half of the values of a table with a variable
pub ruleset power_of_first_half = (is_power_of_two-half)

-- half as many values as in a table with a variable
pub power_of_half : (n m : ℕ) → n < 2 ^ 64 → IsTrue (is_power_of_two n) → 1 < n → m ≡ n / 2 → IsTrue (is_power_of_two m)
power_of_half n m fits test more is =
    let half = half_power n _ (power_of_test n fits test) more in
    is_power_of_two-power m half.0 (is ∙ half.1)

-- as many values as pairs
pub power_of_pairs : {R : Type 0} (ring : Ring R) (r : R) (es : List R) → length es < 2 ^ 64 → IsTrue (is_power_of_two (length es)) → 1 < length es → IsTrue (is_power_of_two (length (back ring (line ring r) es)))
power_of_pairs ring r es fits test more = power_of_half (length es) _ fits test more (length-back ring (line ring r) es)

-- the values of a table whose first or last variable is fixed are a power of two
module _ {X R : Type 0} (ring : Ring R) (r : R) (image : X → R) (es : List X) (fits : length es < 2 ^ 64) (test : IsTrue (is_power_of_two (length es))) (more : 1 < length es) where
  pub power_of_front : IsTrue (is_power_of_two (length (front ring (line ring r) (map image es))))
  power_of_front =
      let many : length (map image es) / 2 ≡ length es / 2 = ap (λ n. n / 2) (length-map es image) in
      power_of_half (length es) _ fits test more (length-front ring (line ring r) (map image es) (length es / 2) many)

  pub power_of_back : IsTrue (is_power_of_two (length (back ring (line ring r) (map image es))))
  power_of_back =
      let many : length (map image es) / 2 ≡ length es / 2 = ap (λ n. n / 2) (length-map es image) in
      power_of_half (length es) _ fits test more (length-back ring (line ring r) (map image es) ∙ many)

-- where a packing has fewer lanes than a table has values, it has no more than half of them
pub width_within_half : (n w l : ℕ) → n < 2 ^ 64 → IsTrue (is_power_of_two n) → w ≡ 2 ^ l → w < n → (1 < n) × (w ≤ n / 2)
width_within_half n w l fits test width less =
    let power = power_of_test n fits test in
    let step = quotient_of_powers (count_trailing_zeros 64 n) l (subst (λ m. m ≤ 2 ^ count_trailing_zeros 64 n) width (omega (arith, power, less))) in
    halves n w (2 ^ (count_trailing_zeros 64 n - l)) (power ∙ step ∙ ap (λ m. 2 ^ (count_trailing_zeros 64 n - l) * m) (sym width)) (subst (λ x. 0 < x) (sym width) (pow_pos l)) less
  where
    halves : (n w q : ℕ) → n ≡ q * w → 0 < w → w < n → (1 < n) × (w ≤ n / 2)
    halves n w zero e p h = absurd (omega arith)
    halves n w (suc zero) e p h = absurd (omega arith)
    halves n w (suc (suc q)) e p h = (omega arith, omega arith)
