-- The number of weights of a half table, each lane counted.
use Rattle.std.proofs.Common.{◌≡◌, ℕ, zero, suc, ◌+◌, ◌-◌, ◌*◌, ◌/◌, ◌^◌, ◌<◌, List, length, ap, sym, ◌∙◌, subst, pow-add, arith}
use Rattle.std.specs.Prelude.{IsTrue}
use Rattle.std.specs.Int.{is_power_of_two}
use Rattle.std.specs.Int.Count.{count_trailing_zeros}
use Rattle.std.proofs.Math.Nat.{mul_assoc, mul-div_cancel, mul-pos}
use Rattle.std.proofs.lemmas.Nat.{pow_pos}
use Rattle.mlu_ring.specs.Lanes.{logical}
use Rattle.mlu_ring.proofs.Logical.{length-logical}
use Rattle.mlu_ring.proofs.PowersOfTwo.{is_power_of_two-power, power_of_test}

-- 2 ^ k elements of 2 ^ l lanes each
pub lanes_of_powers : (n w k l m : ℕ) → n ≡ 2 ^ k → w ≡ 2 ^ l → m ≡ n * w → m ≡ 2 ^ (k + l)
lanes_of_powers n w k l m count width is = is ∙ ap (λ x. x * w) count ∙ ap (λ x. 2 ^ k * x) width ∙ sym (pow-add 2 k l)

pub power_of_lanes : (n w l m : ℕ) → n < 2 ^ 64 → IsTrue (is_power_of_two n) → w ≡ 2 ^ l → m ≡ n * w → IsTrue (is_power_of_two m)
power_of_lanes n w l m fits test width is =
    is_power_of_two-power m (count_trailing_zeros 64 n + l) (lanes_of_powers n w (count_trailing_zeros 64 n) l m (power_of_test n fits test) width is)

-- a power of two is positive
pub positive_of_test : (n : ℕ) → n < 2 ^ 64 → IsTrue (is_power_of_two n) → 0 < n
positive_of_test n fits test = subst (λ m. 0 < m) (sym (power_of_test n fits test)) (pow_pos (count_trailing_zeros 64 n))

pub positive_of_lanes : (n w l : ℕ) → n < 2 ^ 64 → IsTrue (is_power_of_two n) → w ≡ 2 ^ l → 0 < n * w
positive_of_lanes n w l fits test width =
    mul-pos (positive_of_test n fits test) (subst (λ m. 0 < m) (sym width) (pow_pos l))

-- rows of whole packed values, counted without their lanes
pub cancel_width : (a b c w l : ℕ) → w ≡ 2 ^ l → a * w ≡ b * (c * w) → a ≡ b * c
cancel_width a b c w l width is =
    let positive : 0 < w = subst (λ x. 0 < x) (sym width) (pow_pos l) in
    sym (mul-div_cancel a positive) ∙ ap (λ x. x / w) (is ∙ sym (mul_assoc b c w)) ∙ mul-div_cancel (b * c) positive

-- the last of n groups of w, at its last lane
pub last_place : (n w : ℕ) → 0 < n → 0 < w → (n - 1) * w + (w - 1) ≡ n * w - 1
last_place (suc n) w some wide =
    let before : suc n - 1 ≡ n = omega arith in
    let row : suc n * w ≡ n * w + w = omega arith in
    let last : n * w + (w - 1) ≡ suc n * w - 1 = omega (arith, row, wide) in
    ap (λ k. k * w + (w - 1)) before ∙ last
last_place zero w some wide = absurd (omega arith)

-- lanes are those of some packed values
pub some_values : (n w k : ℕ) → k + 1 ≡ n * w → 0 < n
some_values zero w k h = absurd (omega (arith, h))
some_values (suc n) w k h = omega arith

-- a row for each lane of n packed weights is a run of w rows for each of them
pub rows_of_lanes : (all rows n w places : ℕ) → rows ≡ all * places → all ≡ n * w → rows ≡ n * (w * places)
rows_of_lanes all rows n w places is lanes = is ∙ ap (λ k. k * places) lanes ∙ mul_assoc n w places

-- packed values of n lanes each
pub length_of_lanes : {P R : Type 0} (lanes : P → List R) (n : ℕ) (ps : List P) → ((p : P) → length (lanes p) ≡ n) → length (logical lanes ps) ≡ length ps * n
length_of_lanes lanes n ps long = length-logical lanes n long ps
