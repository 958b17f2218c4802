-- Sums of products of residues, kept as two halves of words.
use Rattle.std.proofs.Common.{◌≡◌, ℕ, ◌+◌, ◌*◌, ◌/◌, ◌%◌, ◌^◌, ◌<◌, ◌≤◌, List, get_or, length, map, take, drop, slice_index, sym, ap, ◌∙◌, arith}
use Rattle.std.proofs.lemmas.List.{length-map, length-take-le, map-append, take-append-drop, take-map, drop-map}
use Rattle.std.proofs.Math.Nat.{add-mod-mod, mod-add-mod}
use Rattle.mlu_ring.specs.Tables.{pair}
use Rattle.mlu_ring.proofs.Pairs.{read-map}
use Rattle.mlu_ring.proofs.Totals.{pair-append, pair-take}
use Rattle.mlu_ring.specs.Columns.{column_of}
use Rattle.mlu_lanes.specs.BabyBear.{baby_bear_ring, baby_bear_laws, canonical_are_residues, reduced}
use Rattle.mlu_lanes.specs.Residues.{same_residue}
use Rattle.mlu_lanes.specs.declared.baby_bear.BabyBear.{BabyBear}
use Rattle.mlu_lanes.specs.declared.baby_bear.TheConstants.{MODULUS}

-- coefficient c of the element that was read, read of the column
pub read-column : {E F : Type 0} (z : F) (list : E → List F) (xs : List E) (i c : ℕ) (x : E) (y : F)
    → x ≡ get_or xs i x → y ≡ get_or (list x) c z → y ≡ get_or (column_of z list xs c) i y
read-column z list xs i c x y at is =
    is ∙ read-map (λ e. get_or (list e) c z) xs i x at ∙ ap (get_or (column_of z list xs c) i) (sym is)

module _ {W : ℕ} where
  -- the residue of a word of two halves
  abbrev pub of_halves : ℕ → ℕ → BabyBear W
  of_halves low high = reduced (low + 2 ^ 32 * high)

  pub reduced_sum : (m n : ℕ) → reduced (m + n) ≡ (baby_bear_ring W).sum (reduced m) (reduced n)
  reduced_sum m n =
      same_residue canonical_are_residues (m + n) (m % MODULUS + n % MODULUS)
      (sym (mod-add-mod m MODULUS (n % MODULUS) ∙ add-mod-mod m n MODULUS))

  -- one word more
  pub one_more : (low high x : ℕ) (s t : BabyBear W) → of_halves low high ≡ s → reduced x ≡ t
      → of_halves (low + x % 2 ^ 32) (high + x / 2 ^ 32) ≡ (baby_bear_ring W).sum s t
  one_more low high x s t es et =
      let joined : low + x % 2 ^ 32 + 2 ^ 32 * (high + x / 2 ^ 32) ≡ low + 2 ^ 32 * high + x = omega arith in
      ap reduced joined ∙ reduced_sum (low + 2 ^ 32 * high) x ∙ (λ i. (baby_bear_ring W).sum (es i) (et i))

-- the halves of so many words add up to the products of the column and lane j's
pub record AreHalves {W : ℕ} (n : ℕ) (lows highs : List ℕ) (l : List (BabyBear W)) (r : ℕ → List (BabyBear W)) : Type 0 where
  pub value : (j : ℕ) → j < 4 → of_halves (slice_index lows j) (slice_index highs j) ≡ pair (baby_bear_ring W) l (r j)
  pub low : (j : ℕ) → j < 4 → slice_index lows j ≤ n * 2 ^ 32
  pub high : (j : ℕ) → j < 4 → slice_index highs j ≤ n * 2 ^ 32

-- words with these residues in each lane are added
pub more : {W : ℕ} (n m : ℕ) (lows highs lows2 highs2 : List ℕ) (x : ℕ → ℕ) (l l2 : List (BabyBear W)) (r : ℕ → List (BabyBear W)) (t : ℕ → BabyBear W)
    → n < m → AreHalves n lows highs l r
    → ((j : ℕ) → j < 4 → slice_index lows2 j ≡ slice_index lows j + x j % 2 ^ 32)
    → ((j : ℕ) → j < 4 → slice_index highs2 j ≡ slice_index highs j + x j / 2 ^ 32)
    → ((j : ℕ) → j < 4 → x j < 2 ^ 64)
    → ((j : ℕ) → j < 4 → reduced (x j) ≡ t j)
    → ((j : ℕ) → j < 4 → pair (baby_bear_ring W) l2 (r j) ≡ (baby_bear_ring W).sum (pair (baby_bear_ring W) l (r j)) (t j))
    → AreHalves m lows2 highs2 l2 r
more n m lows highs lows2 highs2 x l l2 r t below was low high small is grows = record {
  value = λ j b.
      (λ i. of_halves (low j b i) (high j b i)) ∙ one_more (slice_index lows j) (slice_index highs j) (x j) _ _ (was.value j b) (is j b) ∙ sym (grows j b);
  low = λ j b. omega (arith, below, was.low j b, low j b);
  high = λ j b. omega (arith, below, was.high j b, high j b, small j b);
}

-- the products of the first n places, and those of the others
pub pair-in_two : {A B : Type 0} {W : ℕ} (f : A → BabyBear W) (h : B → BabyBear W) (l : List A) (r : List B) (n : ℕ) → n ≤ length l
    → pair (baby_bear_ring W) (map f l) (map h r)
    ≡ (baby_bear_ring W).sum (pair (baby_bear_ring W) (map f (take n l)) (map h (take n r))) (pair (baby_bear_ring W) (map f (drop n l)) (map h (drop n r)))
pair-in_two {W = W} f h l r n within =
    let ring = baby_bear_ring W in
    let laws = baby_bear_laws W in
    let first = map f (take n l) in
    let others = map f (drop n l) in
    let long : length first ≡ n = length-map (take n l) f ∙ length-take-le n l within in
    ap (λ w. pair ring w (map h r)) (sym (ap (map f) (take-append-drop n l)) ∙ map-append f (take n l) (drop n l))
    ∙ pair-append ring laws first others (map h r)
    ∙ (λ i. ring.sum
    ((sym (pair-take ring laws first (map h r)) ∙ ap (pair ring first) (ap (λ k. take k (map h r)) long ∙ take-map h n r)) i)
    (ap (pair ring others) (ap (λ k. drop k (map h r)) long ∙ drop-map h n r) i))
