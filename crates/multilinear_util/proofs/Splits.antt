-- Split tables: what their halves stand for, and the sizes of what they are paired with.
use Rattle.std.proofs.Common.{◌≡◌, ℕ, ◌-◌, ◌*◌, ◌+◌, ◌/◌, ◌^◌, ◌<◌, ◌≤◌, List, ◌++◌, map, length, refl, sym, ap, ◌∙◌, subst, arith, pow-add}
use Rattle.std.proofs.lemmas.List.{length-map, length-replicate}
use Rattle.std.proofs.lemmas.Nat.{pow_pos}
use Rattle.std.proofs.Math.Nat.{mul_comm, mul_assoc}
use Rattle.std.proofs.Math.Pow.{pow_mono}
use Rattle.std.specs.Prelude.{IsTrue}
use Rattle.std.specs.Int.{is_power_of_two, div_ceil}
use Rattle.std.specs.Int.Count.{count_trailing_zeros}
use Rattle.mlu_ring.proofs.PowersOfTwo.{power_of_test, exponent_fits}
use Rattle.mlu_ring.specs.Ring.{Ring, RingLaws, IsRingMap}
use Rattle.mlu_ring.specs.Tables.{weights, pair, value}
use Rattle.mlu_eq.specs.Half.{Half}
use Rattle.mlu_eq.specs.Split.{contents}
use Rattle.mlu_eq.proofs.Contents.{length-contents, contents-images, contents-weights}
use Rattle.mlu_eq.proofs.Runs.{own_lanes, run-length-some}
use Rattle.mlu_ring.proofs.Joined.{length-weights}
use Rattle.mlu_ring.proofs.Rings.{map-one}
use Rattle.multilinear_util.specs.Split.{Split, split_entries}
use Rattle.multilinear_util.proofs.Lengths.{exponents, quotient_of_powers}
use Rattle.multilinear_util.proofs.Scaled.{pair-weights}

pub size_of-powers : (c e k n : ℕ) → c ≡ 2 ^ k → e ≡ 2 ^ n → 2 ^ k ≤ 2 ^ n → e ≡ c * 2 ^ (n - k)
size_of-powers c e k n size sized le = sized ∙ quotient_of_powers n k le ∙ mul_comm (2 ^ (n - k)) (2 ^ k) ∙ ap (λ m. m * 2 ^ (n - k)) (sym size)

pub some_of_power : (c k : ℕ) → c ≡ 2 ^ k → 0 < c
some_of_power c k size = subst (λ m. 0 < m) (sym size) (pow_pos k)

-- a table with at most as many entries as another, where both have a power of two
pub fewer : (c e k n : ℕ) → c ≡ 2 ^ k → e ≡ 2 ^ n → c ≤ e → 2 ^ k ≤ 2 ^ n
fewer c e k n size sized le = subst (λ m. m ≤ 2 ^ n) size (subst (λ m. c ≤ m) sized le)

-- and at most as many variables
pub exponent_within : (c e k n : ℕ) → c ≡ 2 ^ k → e ≡ 2 ^ n → c ≤ e → k ≤ n
exponent_within c e k n size sized le = exponents n k (fewer c e k n size sized le)

-- so many values are left for each of 2 ^ k entries
pub quotient_left : (k n : ℕ) → 2 ^ k ≤ 2 ^ n → 2 ^ (n - k) * 2 ^ k ≡ 2 ^ n
quotient_left k n le = sym (quotient_of_powers n k le)

-- as many zeros as were made
pub ruleset length_of_replicate = (length-replicate)

pub one_lane_left : (e c s : ℕ) → e ≡ c * s → e ≡ c * (s * 1)
one_lane_left e c s is = is ∙ omega arith

-- so many values for each entry, of one lane each
pub size_left : (e c k n : ℕ) → e ≡ 2 ^ n → c ≡ 2 ^ k → c ≤ e → e ≡ c * (2 ^ (n - k) * 1)
size_left e c k n sized size le = one_lane_left e c (2 ^ (n - k)) (size_of-powers c e k n size sized (fewer c e k n size sized le))

-- a table has an entry for each weight of the one half and each of the other
pub ruleset size_of_contents = (length-contents)

-- where each half has a power of two weights, the variables add up
pub entries_of_powers : {R : Type 0} (ring : Ring R) (eq0 w : List R) (a b : ℕ) → length eq0 ≡ 2 ^ a → length w ≡ 2 ^ b → length (contents ring eq0 w) ≡ 2 ^ (a + b)
entries_of_powers ring eq0 w a b first second =
    length-contents ring eq0 w ∙ ap (λ m. m * length w) first ∙ ap (λ m. 2 ^ a * m) second ∙ sym (pow-add 2 a b)

-- the images of the halves have the images of the entries, where sums and products are kept
pub contents_of_images : {B R : Type 0} (base : Ring B) (ring : Ring R) (f : B → R) → IsRingMap base ring f → (eq0 w : List B) (e v : List R) → e ≡ map f eq0 → v ≡ map f w → contents ring e v ≡ map f (contents base eq0 w)
contents_of_images base ring f keeps eq0 w e v first second =
    ap (λ l. contents ring l v) first ∙ ap (λ l. contents ring (map f eq0) l) second ∙ contents-images base ring f keeps eq0 w

-- a run of some entries is not empty
pub some_in_run : (entries parts run : ℕ) → run ≡ div_ceil entries parts → 0 < parts → 0 < entries → 0 < run
some_in_run entries parts run is one some = subst (λ k. 0 < k) (sym is) (run-length-some entries parts one some)

module _ {R : Type 0} (ring : Ring R) (split : Split R) (slice : List R) (half : Half R) (first : slice ≡ split.eq0) (second : half ≡ split.eq1) where
  -- the halves, as the kernels take them, have the entries of the table
  pub halves-entries : contents ring slice half.weights ≡ split_entries ring split
  halves-entries = ap (λ e. contents ring e half.weights) first ∙ ap (λ h. contents ring split.eq0 h.weights) second

  pub halves-size : (n : ℕ) → n ≡ length (split_entries ring split) → n ≡ length slice * length half.weights
  halves-size n is = is ∙ ap length (sym halves-entries) ∙ length-contents ring slice half.weights

  -- so many places for each entry of the table
  pub halves-room : (values places : ℕ) → values ≡ length (split_entries ring split) * places → values ≡ length slice * (length half.weights * places)
  halves-room values places is =
      is ∙ ap (λ k. k * places) (halves-size (length (split_entries ring split)) refl) ∙ mul_assoc (length slice) (length half.weights) places

module _ {R : Type 0} (ring : Ring R) (laws : RingLaws ring) where
  -- the halves of a table at a scale
  pub split-made : (scale one : R) (p first second eq0 w : List R) → one ≡ ring.one → first ++ second ≡ p
      → eq0 ≡ map (ring.product scale) (weights ring first) → w ≡ map (ring.product one) (weights ring second) → contents ring eq0 w ≡ map (ring.product scale) (weights ring p)
  split-made scale one p first second eq0 w is_one whole is0 is1 =
      ap (λ e. contents ring e w) is0
      ∙ ap (λ v. contents ring (map (ring.product scale) (weights ring first)) v) (is1 ∙ map-one ring laws one (weights ring second) is_one)
      ∙ contents-weights ring laws first second scale
      ∙ ap (λ q. map (ring.product scale) (weights ring q)) whole

  pub split-size : (scale : R) (p c : List R) → c ≡ map (ring.product scale) (weights ring p) → length c ≡ 2 ^ length p
  split-size scale p c is = ap length is ∙ length-map (weights ring p) (ring.product scale) ∙ length-weights ring p

  -- a table at scale one, paired with a polynomial, is its value
  pub pair-unit : (one : R) (p c e : List R) → one ≡ ring.one → c ≡ map (ring.product one) (weights ring p) → pair ring c e ≡ value ring e p
  pair-unit one p c e is_one is = ap (λ v. pair ring v e) (is ∙ map-one ring laws one (weights ring p) is_one) ∙ pair-weights ring laws e p

-- where as many variables are left as a packing has, they are packed
pub room_for_lanes : (c w e k l n : ℕ) → c ≡ 2 ^ k → w ≡ 2 ^ l → e ≡ 2 ^ n → c * w ≤ e → k + l ≤ n
room_for_lanes c w e k l n size width sized le =
    let product : c * w ≡ 2 ^ (k + l) = ap (λ m. m * w) size ∙ ap (λ m. 2 ^ k * m) width ∙ sym (pow-add 2 k l) in
    exponents n (k + l) (subst (λ m. m ≤ 2 ^ n) product (subst (λ m. c * w ≤ m) sized le))

pub lanes_left : (out w k l n : ℕ) → out ≡ 2 ^ (n - k - l) → w ≡ 2 ^ l → k + l ≤ n → out * w ≡ 2 ^ (n - k)
lanes_left out w k l n is width le =
    let e : n - k - l + l ≡ n - k = omega (arith, le) in
    ap (λ m. m * w) is ∙ ap (λ m. 2 ^ (n - k - l) * m) width ∙ sym (pow-add 2 (n - k - l) l) ∙ ap (λ j. 2 ^ j) e

pub power_within : (k n : ℕ) → k ≤ n → 2 ^ k ≤ 2 ^ n
power_within k n le = grind (arith, pow_mono {i = k} {j = n}, le)

-- in a table with room for the lanes of a packing for each entry of another: no fewer variables than that has
pub variables_of_rows : (c w e k l n : ℕ) → c ≡ 2 ^ k → w ≡ 2 ^ l → e ≡ 2 ^ n → c * w ≤ e → k ≤ n
variables_of_rows c w e k l n size width sized le =
    let room = room_for_lanes c w e k l n size width sized le in
    omega (arith, room)

-- as many variables left as a packing has
pub lanes_of_row : (c w e k l n : ℕ) → c ≡ 2 ^ k → w ≡ 2 ^ l → e ≡ 2 ^ n → c * w ≤ e → l ≤ n - k
lanes_of_row c w e k l n size width sized le =
    let room = room_for_lanes c w e k l n size width sized le in
    omega (arith, room)

-- and so many lanes in each row
pub lanes_of_rows : (c w e k l n : ℕ) → c ≡ 2 ^ k → w ≡ 2 ^ l → e ≡ 2 ^ n → c * w ≤ e → e ≡ c * (2 ^ (n - k - l) * w)
lanes_of_rows c w e k l n size width sized le =
    let room = room_for_lanes c w e k l n size width sized le in
    size_of-powers c e k n size sized (power_within k n (omega (arith, room)))
    ∙ ap (λ m. c * m) (sym (lanes_left (2 ^ (n - k - l)) w k l n refl width room))

-- a table of as many entries as two packings have lanes, multiplied, has the variables of both
pub lanes_twice : (w l n : ℕ) → w ≡ 2 ^ l → w * w ≤ 2 ^ n → l ≤ n / 2
lanes_twice w l n width le =
    let room = room_for_lanes w w (2 ^ n) l l n width width refl le in
    omega (arith, room)

-- half as many weights fit a word, where all of them are entries of a table
pub half_fits : (n e : ℕ) → 2 ^ n ≤ e → e < 2 ^ 64 → 2 ^ (n - n / 2) < 2 ^ 64
half_fits n e le fits = grind (arith, pow_mono {i = n - n / 2} {j = n}, le, fits)

-- and so it is with the lanes of packed entries
pub lanes_fit : (m w l n : ℕ) → m < 2 ^ 64 → IsTrue (is_power_of_two m) → w ≡ 2 ^ l → w < 2 ^ 64 → m * w ≡ 2 ^ n → 2 ^ (n - n / 2) < 2 ^ 64
lanes_fit m w l n short test width narrow count =
    let a = count_trailing_zeros 64 m in
    let power : m ≡ 2 ^ a = power_of_test m short test in
    let elements = exponent_fits a (subst (λ x. x < 2 ^ 64) power short) in
    let lanes = exponent_fits l (subst (λ x. x < 2 ^ 64) width narrow) in
    let whole : 2 ^ n ≡ 2 ^ (a + l) = sym count ∙ ap (λ x. x * w) power ∙ ap (λ x. 2 ^ a * x) width ∙ sym (pow-add 2 a l) in
    let le : 2 ^ n ≤ 2 ^ (a + l) = omega (arith, whole) in
    let sum = exponents (a + l) n le in
    grind (arith, pow_mono {i = n - n / 2} {j = 63}, sum, elements, lanes)

-- and with the weights where each stands for as many entries as a packing has lanes
pub lanes_half_fits : (n w l e : ℕ) → w ≡ 2 ^ l → 2 ^ n * w ≤ e → e < 2 ^ 64 → 2 ^ (n - n / 2) < 2 ^ 64
lanes_half_fits n w l e width le fits =
    let product : 2 ^ n * w ≡ 2 ^ (n + l) = ap (λ m. 2 ^ n * m) width ∙ sym (pow-add 2 n l) in
    let more : 2 ^ n ≤ 2 ^ (n + l) = power_within n (n + l) (omega arith) in
    half_fits n e (omega (arith, product, more, le)) fits

-- the values that are left fit a word
pub left_fits : (n k : ℕ) → n < 64 → 2 ^ (n - k) < 2 ^ 64
left_fits n k h = grind (arith, pow_mono {i = n - k} {j = 63}, h)

-- what a compression of the prefix in runs asks of the places that it leaves
pub ruleset prefix_in_runs = (exponent_within, left_fits, some_of_power, size_left, own_lanes)

-- and where these are packed
pub ruleset packed_prefix_in_runs = (variables_of_rows, lanes_of_row, left_fits, some_of_power, lanes_of_rows)

-- what a compression of the suffix asks of them
pub ruleset suffix_left = (exponent_within, quotient_left, length_of_replicate)
