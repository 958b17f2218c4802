-- Sizes of a batch, and of what is left of it without its first row.
use Rattle.std.proofs.Common.{◌≡◌, ℕ, suc, ◌+◌, ◌-◌, ◌*◌, ◌/◌, ◌^◌, ◌<◌, ◌≤◌, List, length, take, drop, refl, sym, subst, ap, ◌∙◌, arith, length-take, length-drop}
use Rattle.std.specs.Prelude.{replicate}
use Rattle.std.proofs.Math.Nat.{mul-div_cancel, mul-div-le, mul-le-mul_right}
use Rattle.std.proofs.lemmas.Simd.{length-replicate}
use Rattle.mlu_ring.specs.Matrices.{AreRows}
use Rattle.mlu_point.specs.Batches.{share_places, IsRoom}

-- n rows of the width of the scalars are n variables
pub places-of_rows : (values scalars places n width : ℕ) → values ≡ n * width → scalars ≡ width → places ≡ 2 ^ n → 0 < scalars → places ≡ 2 ^ (values / scalars)
places-of_rows values scalars places n width rows same all some =
    let height : values / scalars ≡ n = ap (λ v. v / scalars) (rows ∙ ap (λ w. n * w) (sym same)) ∙ mul-div_cancel n some in
    all ∙ ap (λ k. 2 ^ k) (sym height)

-- the lengths where one row of s values is split off from v values, and an output in two halves
lengths : (h v o s out lo hi : ℕ) → 0 < s → v ≡ v / s * s → v / s ≡ suc h → o ≡ v - 1 * s → out ≡ 2 ^ (v / s) → lo ≡ out / 2 → hi ≡ out - out / 2 → (o < v) × (o + s ≡ v) × (lo ≡ 2 ^ (o / s)) × (hi ≡ 2 ^ (o / s))
lengths h v o s out lo hi some whole rows rest size low high =
    let sum : v ≡ suc h * s = whole ∙ ap (λ q. q * s) rows in
    let less : o ≡ h * s = omega (arith, sum, rest) in
    let quotient : o / s ≡ h = ap (λ n. n / s) less ∙ mul-div_cancel h some in
    let long : out ≡ 2 ^ suc h = size ∙ ap (λ n. 2 ^ n) rows in
    let power : 2 ^ (o / s) ≡ 2 ^ h = ap (λ n. 2 ^ n) quotient in
    (omega (arith, sum, less, some), omega (arith, sum, less), omega (arith, long, low, power), omega (arith, long, high, power))

-- there is a row, so that the height is one more than a number
pub rows-suc : (v w s height : ℕ) → w ≡ s → height ≡ v / w → (height ≡ 0 → ⊥) → v / s ≡ suc (v / s - 1)
rows-suc v w s height width is positive =
    let some : v / s ≡ 0 → ⊥ = λ none. positive (is ∙ ap (λ n. v / n) width ∙ none) in
    omega (arith, some)

pub split-sizes : {C R : Type 0} (vs others : List C) (out lower upper : List R) (w s height : ℕ) → 0 < s → w ≡ s → AreRows (length vs) w → height ≡ length vs / w → (height ≡ 0 → ⊥)
    → others ≡ drop (1 * w) vs → length out ≡ 2 ^ (length vs / s) → lower ≡ take (length out / 2) out → upper ≡ drop (length out / 2) out
    → (length others < length vs) × (length others + s ≡ length vs) × (length lower ≡ 2 ^ (length others / s)) × (length upper ≡ 2 ^ (length others / s))
split-sizes vs others out lower upper w s height some width whole is positive is_others size is_lower is_upper =
    let rows : AreRows (length vs) s = subst (λ n. AreRows (length vs) n) width whole in
    let rest : length others ≡ length vs - 1 * s = ap length is_others ∙ length-drop (1 * w) vs ∙ ap (λ n. length vs - 1 * n) width in
    let low : length lower ≡ length out / 2 = ap length is_lower ∙ omega (arith, length-take (length out / 2) out) in
    let high : length upper ≡ length out - length out / 2 = ap length is_upper ∙ length-drop (length out / 2) out in
    lengths (length vs / s - 1) (length vs) (length others) s (length out) (length lower) (length upper) some rows (rows-suc (length vs) w s height width is positive) rest size low high

-- the same where each place of the output is a group of places
pub group-sizes : {C R : Type 0} (vs others : List C) (out lower upper : List R) (w s height group : ℕ) → 0 < s → w ≡ s → AreRows (length vs) w → height ≡ length vs / w → (height ≡ 0 → ⊥)
    → others ≡ drop (1 * w) vs → length out ≡ 2 ^ (length vs / s) * group → lower ≡ take (length out / 2) out → upper ≡ drop (length out / 2) out
    → (length others < length vs) × (length others + s ≡ length vs) × (length lower ≡ 2 ^ (length others / s) * group) × (length upper ≡ 2 ^ (length others / s) * group)
    × (2 ^ (length vs / s) ≡ 2 ^ (length others / s) + 2 ^ (length others / s))
group-sizes vs others out lower upper w s height group some width whole is positive is_others size is_lower is_upper =
    let n = 2 ^ (length vs / s) in
    let p = 2 ^ (length others / s) in
    let places : List ℕ = replicate n 0 in
    let long : length places ≡ n = length-replicate n 0 in
    let sizes = split-sizes vs others places (take (length places / 2) places) (drop (length places / 2) places) w s height some width whole is positive is_others long refl refl in
    let half : n / 2 ≡ p = omega (arith, sizes.2, length-take (length places / 2) places, long) in
    let rest : n - n / 2 ≡ p = omega (arith, sizes.3, length-drop (length places / 2) places, long) in
    let twice : n ≡ p + p = omega (arith, half, rest) in
    let all : length out ≡ p * group + p * group = size ∙ ap (λ k. k * group) twice ∙ omega arith in (
      sizes.0,
      sizes.1,
      ap length is_lower ∙ omega (arith, length-take (length out / 2) out, all),
      ap length is_upper ∙ omega (arith, length-drop (length out / 2) out, all),
      twice,
    )

-- a row less, and so many of the rows that are left
pub fewer-rows : (v o s : ℕ) → 0 < s → v ≡ v / s * s → o + s ≡ v → v / s ≡ suc (o / s)
fewer-rows v o s some whole sum =
    let positive : v / s ≡ 0 → ⊥ = λ none. let all : v ≡ 0 * s = whole ∙ ap (λ q. q * s) none in omega (arith, all, sum, some) in
    let rows : v / s ≡ suc (v / s - 1) = omega (arith, positive) in
    let size : v ≡ suc (v / s - 1) * s = whole ∙ ap (λ q. q * s) rows in
    let less : o ≡ (v / s - 1) * s = omega (arith, size, sum) in
    rows ∙ ap suc (sym (ap (λ n. n / s) less ∙ mul-div_cancel (v / s - 1) some))

-- where a recursion stops at so many rows, and has not yet come there
pub rows-left : (v o s below : ℕ) → 0 < s → v ≡ v / s * s → o + s ≡ v → below ≤ v / s → (v / s ≡ below → ⊥) → (below ≤ o / s) × (below * s ≤ o)
rows-left v o s below some whole sum within apart =
    let rows = fewer-rows v o s some whole sum in
    let fits : below ≤ o / s = omega (arith, rows, within, apart) in
    (fits, omega (arith, mul-le-mul_right s fits, mul-div-le o s))

-- lists of the same lengths have the same room
pub room-kept : {R P : Type 0} (width log_width variables : ℕ) (s t l m : List R) (p q : List P) → length t ≡ length s → length m ≡ length l → length q ≡ length p
    → IsRoom width log_width variables s l p → IsRoom width log_width variables t m q
room-kept width log_width variables s t l m p q scalars lanes packed room some =
    let was = room some in
    (was.0, lanes ∙ was.1, packed ∙ was.2 ∙ ap (share_places log_width variables) (sym scalars))
