-- Products of residues as integers: those of the first places, added up in four lanes of two halves.
use Rattle.std.proofs.Common.{◌≡◌, ℕ, zero, suc, ◌+◌, ◌*◌, ◌/◌, ◌%◌, ◌^◌, ◌<◌, ◌≤◌, List, length, take, get_or, slice_index, lit<, sym, ap, ◌∙◌, arith}
use Rattle.std.proofs.lemmas.List.{get_or_default}
use Rattle.mlu_ring.specs.Tables.{pair}
use Rattle.mlu_ring.proofs.Groups.{pair-take_more}
use Rattle.mlu_ring.proofs.Totals.{pair-nil}
use Rattle.mlu_lanes.specs.BabyBear.{baby_bear_ring, baby_bear_laws, canonical, reduced, same_canonical}
use Rattle.mlu_lanes.specs.Packed.{product_at}
use Rattle.mlu_lanes.specs.declared.baby_bear.BabyBear.{BabyBear}
use Rattle.mlu_lanes.specs.declared.baby_bear.TheConstants.{MODULUS}
use Rattle.mlu_lanes.proofs.HalvedSums.{reduced_sum}

module _ (f : ℕ → ℕ) where
  -- the first n numbers, added up
  pub total : ℕ → ℕ
  total zero = 0
  total (suc n) = total n + f n

  total-more : (n m : ℕ) → m ≡ suc n → total m ≡ total n + f n
  unfolding total
  total-more n m next = ap total next

  pub total-four_more : (n m : ℕ) → m ≡ n + 4 → total m ≡ total n + (f (n + 0) + f (n + 1) + f (n + 2) + f (n + 3))
  total-four_more n m next =
      let first = total-more (n + 0) (n + 1) (omega arith) in
      let second = total-more (n + 1) (n + 2) (omega arith) in
      let third = total-more (n + 2) (n + 3) (omega arith) in
      let fourth = total-more (n + 3) m (omega (arith, next)) in
      let start : total (n + 0) ≡ total n = ap total (let e : n + 0 ≡ n = omega arith in e) in
      omega (arith, first, second, third, fourth, start)

-- the word of two halves in lane j
abbrev word : List ℕ → List ℕ → ℕ → ℕ
word lows highs j = slice_index lows j + 2 ^ 32 * slice_index highs j

-- four lanes, each of two halves of so many words, have the sum of the first n numbers
pub record AreLanes (f : ℕ → ℕ) (n words : ℕ) (lows highs : List ℕ) : Type 0 where
  pub value : word lows highs 0 + word lows highs 1 + (word lows highs 2 + word lows highs 3) ≡ total f n
  pub low : (j : ℕ) → j < 4 → slice_index lows j ≤ words * 2 ^ 32
  pub high : (j : ℕ) → j < 4 → slice_index highs j ≤ words * 2 ^ 32

pub no_lanes : (f : ℕ → ℕ) (lows highs : List ℕ) → ((j : ℕ) → j < 4 → slice_index lows j ≡ 0) → ((j : ℕ) → j < 4 → slice_index highs j ≡ 0) → AreLanes f 0 0 lows highs
unfolding total
no_lanes f lows highs low high = record {
  value =
      omega (arith, low 0 (lit< tt), low 1 (lit< tt), low 2 (lit< tt), low 3 (lit< tt), high 0 (lit< tt), high 1 (lit< tt), high 2 (lit< tt), high 3 (lit< tt));
  low = λ j b. omega (arith, low j b);
  high = λ j b. omega (arith, high j b);
}

-- sixteen numbers more, four to a lane
pub more_lanes : (f : ℕ → ℕ) (n m words : ℕ) (lows highs lows2 highs2 : List ℕ) (x : ℕ → ℕ)
    → m ≡ n + 16 → AreLanes f n words lows highs
    → ((j : ℕ) → j < 4 → slice_index lows2 j ≡ slice_index lows j + x j % 2 ^ 32)
    → ((j : ℕ) → j < 4 → slice_index highs2 j ≡ slice_index highs j + x j / 2 ^ 32)
    → ((j : ℕ) → j < 4 → x j < 2 ^ 64)
    → ((j : ℕ) → j < 4 → x j ≡ f (n + j) + f (n + 4 + j) + (f (n + 8 + j) + f (n + 12 + j)))
    → AreLanes f m (words + 1) lows2 highs2
more_lanes f n m words lows highs lows2 highs2 x next was low high small is = record {
  value =
      omega (
        arith,
        was.value,
        joined 0 (lit< tt),
        joined 1 (lit< tt),
        joined 2 (lit< tt),
        joined 3 (lit< tt),
        total-four_more f n (n + 4) (omega arith),
        total-four_more f (n + 4) (n + 8) (omega arith),
        total-four_more f (n + 8) (n + 12) (omega arith),
        total-four_more f (n + 12) m (omega (arith, next)),
      );
  low = λ j b. omega (arith, was.low j b, low j b);
  high = λ j b. omega (arith, was.high j b, high j b, small j b);
}
  where
    joined : (j : ℕ) → j < 4 → word lows2 highs2 j ≡ word lows highs j + (f (n + j) + f (n + 4 + j) + (f (n + 8 + j) + f (n + 12 + j)))
    joined j b = omega (arith, low j b, high j b, is j b)

module _ {W : ℕ} (l r : List (BabyBear W)) where
  -- the sum of the integers is that of the elements
  pub reduced-total : (n : ℕ) → n ≤ length l → n ≤ length r → reduced (total (product_at l r) n) ≡ pair (baby_bear_ring W) (take n l) r
  unfolding total
  reduced-total zero h k = sym (pair-nil (baby_bear_ring W) (baby_bear_laws W) r)
  reduced-total (suc n) h k =
      let z : BabyBear W = reduced 0 in
      let ring = baby_bear_ring W in
      let in_l : n < length l = omega (arith, h) in
      let in_r : n < length r = omega (arith, k) in
      reduced_sum (total (product_at l r) n) (product_at l r n)
      ∙ ap (λ s. ring.sum s (ring.product (get_or l n z) (get_or r n z))) (reduced-total n (omega (arith, h)) (omega (arith, k)))
      ∙ sym (ap (λ m. pair ring (take m l) r) (let e : suc n ≡ n + 1 = omega arith in e)
      ∙ pair-take_more ring (baby_bear_laws W) l r n (get_or l n z) (get_or r n z) in_l in_r (get_or_default l n z _ in_l) (get_or_default r n z _ in_r))

  -- the residues of four lanes, added up
  pub lanes_reduced : (n words : ℕ) (lows highs : List ℕ) (a b c d : BabyBear W) → n ≤ length l → n ≤ length r → AreLanes (product_at l r) n words lows highs
      → canonical a ≡ word lows highs 0 % MODULUS → canonical b ≡ word lows highs 1 % MODULUS
      → canonical c ≡ word lows highs 2 % MODULUS → canonical d ≡ word lows highs 3 % MODULUS
      → (baby_bear_ring W).sum ((baby_bear_ring W).sum a b) ((baby_bear_ring W).sum c d) ≡ pair (baby_bear_ring W) (take n l) r
  lanes_reduced n words lows highs a b c d h k are is_a is_b is_c is_d =
      let sum = (baby_bear_ring W).sum in
      let at = word lows highs in
      (λ i. sum (sum (same_canonical a (reduced (at 0)) is_a i) (same_canonical b (reduced (at 1)) is_b i))
      (sum (same_canonical c (reduced (at 2)) is_c i) (same_canonical d (reduced (at 3)) is_d i)))
      ∙ sym (reduced_sum (at 0 + at 1) (at 2 + at 3) ∙ (λ i. sum (reduced_sum (at 0) (at 1) i) (reduced_sum (at 2) (at 3) i)))
      ∙ ap reduced are.value
      ∙ reduced-total n h k
