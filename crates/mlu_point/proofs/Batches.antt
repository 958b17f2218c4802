-- Batches of equality tables, one variable at a time.
use Rattle.std.proofs.Common.{not, nat_eq, ◌≡◌, ℕ, zero, suc, ◌+◌, ◌-◌, ◌*◌, ◌/◌, ◌^◌, ◌<◌, ◌≤◌, Bool, true, List, [], ◌∷◌, ◌++◌, map, length, get_or, take, drop, set, refl, sym, subst, ap, ◌∙◌, arith, zero-add, length-drop}
use Rattle.std.specs.Prelude.{if◌then◌else◌}
use Rattle.std.specs.List.{range_with_len}
use Rattle.std.specs.Simd.Lanes.{zip2}
use Rattle.std.proofs.lemmas.Bool.{ne_eqb}
use Rattle.std.proofs.lemmas.List.{get_or-map, length-map}
use Rattle.std.proofs.lemmas.List.FromFn.{length-map-range_with_len, get_or-map-range_with_len, fill_by_all}
use Rattle.std.proofs.Math.Nat.{mul-div_cancel}
use Rattle.mlu_ring.specs.Ring.{Ring, RingLaws}
use Rattle.mlu_ring.specs.Sums.{sum_of, sum_below}
use Rattle.mlu_ring.specs.Tables.{weight}
use Rattle.mlu_ring.specs.Matrices.{AreRows, column, batch, left_by}
use Rattle.mlu_ring.proofs.Rings.{sum_zero, sum_product, product_one, product_negation, negation_product}
use Rattle.mlu_ring.proofs.SumsBelow.{map_from, sum_below-same, sum_below-zero, sum_below-suc}
use Rattle.mlu_ring.proofs.Values.{weight-low, weight-high}
use Rattle.mlu_ring.proofs.Doubling.{map_range-add}
use Rattle.mlu_point.proofs.Weights.{weight-none}
use Rattle.mlu_point.proofs.Outputs.{left-append, left-one}
use Rattle.mlu_point.proofs.Columns.{column-first, length-column, column-none}

module _ {R : Type 0} (ring : Ring R) where
  pub length-batch : (values scalars : List R) (n : ℕ) → length (batch ring values scalars n) ≡ n
  unfolding batch
  length-batch values scalars n = length-map-range_with_len _ 0 n

module _ {R : Type 0} (ring : Ring R) (laws : RingLaws ring) where
  infixl 50 ◌⊕◌
  infixl 50 ◌⊖◌
  infixl 60 ◌⊗◌
  open ring use {sum as ◌⊕◌, product as ◌⊗◌, minus as ◌⊖◌, zero as 𝟘, one as 𝟙}

  -- entry x of the batch of w points
  abbrev entry : List R → List R → ℕ → ℕ → R
  entry values scalars w x = sum_below ring w (λ i. get_or scalars i 𝟘 ⊗ weight ring (column ring values w i) x)

  pub keeps : (s c w : R) → s ⊗ ((𝟙 ⊖ c) ⊗ w) ≡ (s ⊖ (s ⊗ c)) ⊗ w
  keeps s c w = simp (laws.minus_is, laws.product_sum, sum_product ring laws, laws.one_product, product_negation ring laws, negation_product ring laws, laws.product_assoc)

  -- an entry at y of the points is one at x of the points without their first coordinate, if so it is for each scalar
  entry-first : (values s t : List R) (w h x y : ℕ) → length values / w ≡ suc h → length (drop w values) / w ≡ h
      → ((i : ℕ) (p : List R) → i < w → length p ≡ h → get_or s i 𝟘 ⊗ weight ring (get_or values i 𝟘 ∷ p) y ≡ get_or t i 𝟘 ⊗ weight ring p x) → entry values s w y ≡ entry (drop w values) t w x
  entry-first values s t w h x y rows fewer each =
      sum_below-same ring w (λ i. get_or s i 𝟘 ⊗ weight ring (column ring values w i) y) (λ i. get_or t i 𝟘 ⊗ weight ring (column ring (drop w values) w i) x)
      (λ i q. ap (λ p. get_or s i 𝟘 ⊗ weight ring p y) (column-first ring values w i h rows fewer) ∙ each i (column ring (drop w values) w i) q (length-column ring (drop w values) w i ∙ fewer))

  -- the scalars that go to the lower half, and those that go to the upper half
  entry-low : (values s low : List R) (w h x : ℕ) → length values / w ≡ suc h → length (drop w values) / w ≡ h → ((i : ℕ) → i < w → get_or low i 𝟘 ≡ get_or s i 𝟘 ⊖ (get_or s i 𝟘 ⊗ get_or values i 𝟘)) → x < 2 ^ h → entry values s w x ≡ entry (drop w values) low w x
  entry-low values s low w h x rows fewer shares below =
      entry-first values s low w h x x rows fewer
      (λ i p q long.
      let inside : x < 2 ^ length p = subst (λ n. x < 2 ^ n) (sym long) below in
      ap (λ t. get_or s i 𝟘 ⊗ t) (weight-low ring (get_or values i 𝟘) p x inside) ∙ keeps (get_or s i 𝟘) (get_or values i 𝟘) (weight ring p x) ∙ ap (λ t. t ⊗ weight ring p x) (sym (shares i q)))

  entry-high : (values s high : List R) (w h x : ℕ) → length values / w ≡ suc h → length (drop w values) / w ≡ h → ((i : ℕ) → i < w → get_or high i 𝟘 ≡ get_or s i 𝟘 ⊗ get_or values i 𝟘) → x < 2 ^ h → entry values s w (2 ^ h + x) ≡ entry (drop w values) high w x
  entry-high values s high w h x rows fewer shares below =
      entry-first values s high w h x (2 ^ h + x) rows fewer
      (λ i p q long.
      let inside : x < 2 ^ length p = subst (λ n. x < 2 ^ n) (sym long) below in
      ap (λ n. get_or s i 𝟘 ⊗ weight ring (get_or values i 𝟘 ∷ p) (2 ^ n + x)) (sym long)
      ∙ ap (λ t. get_or s i 𝟘 ⊗ t) (weight-high ring (get_or values i 𝟘) p x inside)
      ∙ sym (laws.product_assoc (get_or s i 𝟘) (get_or values i 𝟘) (weight ring p x))
      ∙ ap (λ t. t ⊗ weight ring p x) (sym (shares i q)))

  batch-first : (values s low high : List R) (w h : ℕ) → length values / w ≡ suc h → length (drop w values) / w ≡ h → length s ≡ w → length low ≡ w → length high ≡ w
      → ((i : ℕ) → i < w → get_or low i 𝟘 ≡ get_or s i 𝟘 ⊖ (get_or s i 𝟘 ⊗ get_or values i 𝟘)) → ((i : ℕ) → i < w → get_or high i 𝟘 ≡ get_or s i 𝟘 ⊗ get_or values i 𝟘)
      → batch ring values s (2 ^ suc h) ≡ batch ring (drop w values) low (2 ^ h) ++ batch ring (drop w values) high (2 ^ h)
  unfolding batch
  batch-first values s low high w h rows fewer size_s size_low size_high lows highs =
      let m = 2 ^ h in
      let f = λ (x : ℕ). entry values s w x in
      let g = λ (x : ℕ). entry (drop w values) low w x in
      let k = λ (x : ℕ). entry (drop w values) high w x in
      let twice : 2 ^ suc h ≡ 2 ^ h + 2 ^ h = omega arith in
      ap (λ v. map (λ x. entry values s v x) (range_with_len 0 (2 ^ suc h))) size_s
      ∙ ap (λ n. map f (range_with_len 0 n)) twice
      ∙ map_range-add f 0 m m
      ∙ ap (λ l. l ++ map f (range_with_len (0 + m) m)) (map_from 0 0 m f g (λ x q. simp zero-add (entry-low values s low w h x rows fewer lows q)))
      ∙ ap (λ l. map g (range_with_len 0 m) ++ l) (map_from (0 + m) 0 m f k (λ x q. simp zero-add (entry-high values s high w h x rows fewer highs q)))
      ∙ ap (λ v. map (λ x. entry (drop w values) low v x) (range_with_len 0 m) ++ map k (range_with_len 0 m)) (sym size_low)
      ∙ ap (λ v. map (λ x. entry (drop w values) low (length low) x) (range_with_len 0 m) ++ map (λ x. entry (drop w values) high v x) (range_with_len 0 m)) (sym size_high)

  one_row_less : (n w h : ℕ) → AreRows n w → n / w ≡ suc h → n - w ≡ h * w
  one_row_less n w h whole rows = let size : n ≡ suc h * w = whole ∙ ap (λ q. q * w) rows in omega (arith, size)

  pub rows-less : (values : List R) (w h : ℕ) → 0 < w → AreRows (length values) w → length values / w ≡ suc h → length (drop w values) / w ≡ h
  rows-less values w h some whole rows =
      ap (λ n. n / w) (length-drop w values ∙ one_row_less (length values) w h whole rows) ∙ mul-div_cancel h some

  -- the two halves of an output, each with its batch
  pub left-batch : (adds : Bool) (values s low high out : List R) (w half h : ℕ) → 0 < w → AreRows (length values) w → length values / w ≡ suc h
      → length s ≡ w → length low ≡ w → length high ≡ w
      → ((i : ℕ) → i < w → get_or low i 𝟘 ≡ get_or s i 𝟘 ⊖ (get_or s i 𝟘 ⊗ get_or values i 𝟘)) → ((i : ℕ) → i < w → get_or high i 𝟘 ≡ get_or s i 𝟘 ⊗ get_or values i 𝟘)
      → length out ≡ 2 ^ (length values / w) → half ≡ 2 ^ h
      → left_by ring adds (take half out) (batch ring (drop w values) low half) ++ left_by ring adds (drop half out) (batch ring (drop w values) high half) ≡ left_by ring adds out (batch ring values s (length out))
  left-batch adds values s low high out w half h some whole rows size_s size_low size_high lows highs size is =
      let fewer = rows-less values w h some whole rows in
      let long : length out ≡ 2 ^ suc h = size ∙ ap (λ n. 2 ^ n) rows in
      let fits : half ≤ length out = omega (arith, long, is) in
      left-append ring adds half out (batch ring (drop w values) low half) (batch ring (drop w values) high half) (length-batch ring (drop w values) low half) fits
      ∙ ap (λ l. left_by ring adds out l)
      (ap (λ n. batch ring (drop w values) low n ++ batch ring (drop w values) high n) is
      ∙ sym (batch-first values s low high w h rows fewer size_s size_low size_high lows highs)
      ∙ ap (λ n. batch ring values s n) (sym long))

  sum_below-entries : (s : List R) → sum_below ring (length s) (λ i. get_or s i 𝟘 ⊗ 𝟙) ≡ sum_of ring s
  sum_below-entries [] = sum_below-zero ring (λ i. get_or [] i 𝟘 ⊗ 𝟙)
  sum_below-entries (x ∷ s) =
      sum_below-suc ring (length s) (λ i. get_or (x ∷ s) i 𝟘 ⊗ 𝟙)
      ∙ ap (λ t. t ⊕ sum_below ring (length s) (λ i. get_or s i 𝟘 ⊗ 𝟙)) (product_one ring laws x)
      ∙ ap (λ t. x ⊕ t) (sum_below-entries s)

  -- with no variable the batch is the sum of the scalars
  pub batch-none : (values s : List R) → length values / length s ≡ 0 → batch ring values s 1 ≡ sum_of ring s ∷ []
  unfolding batch
  batch-none values s none =
      ap (λ t. t ∷ [])
      (sum_below-same ring (length s) (λ i. get_or s i 𝟘 ⊗ weight ring (column ring values (length s) i) 0) (λ i. get_or s i 𝟘 ⊗ 𝟙)
      (λ i q. ap (λ p. get_or s i 𝟘 ⊗ weight ring p 0) (column-none ring values (length s) i none) ∙ ap (λ t. get_or s i 𝟘 ⊗ t) (weight-none ring laws 0))
      ∙ sum_below-entries s)

  no_points : (values s : List R) (x : ℕ) → length s ≡ 0 → entry values s (length s) x ≡ 𝟘
  no_points values s x none = ap (λ w. entry values s w x) none ∙ sum_below-zero ring (λ i. get_or s i 𝟘 ⊗ weight ring (column ring values 0 i) x)

  -- the batch of no points is zero everywhere
  pub zeros-batch : (values s out : List R) (n : ℕ) → length s ≡ 0 → length out ≡ n → ((k : ℕ) → k < n → get_or out k 𝟘 ≡ 𝟘) → out ≡ batch ring values s n
  unfolding batch
  zeros-batch values s out n none long zeros = fill_by_all (λ x. entry values s (length s) x) out n 𝟘 long (λ k h. zeros k h ∙ sym (no_points values s k none))

  zip-zeros : (old zs : List R) → length zs ≡ length old → ((k : ℕ) → k < length old → get_or zs k 𝟘 ≡ 𝟘) → zip2 ring.sum old zs ≡ old
  zip-zeros [] zs h zeros = refl
  zip-zeros (x ∷ old) [] h zeros = absurd (omega arith)
  zip-zeros (x ∷ old) (z ∷ zs) h zeros =
      let first : x ⊕ z ≡ x = ap (λ t. x ⊕ t) (zeros 0 (omega arith)) ∙ sum_zero ring laws x in
      let rest : zip2 ring.sum old zs ≡ old = zip-zeros old zs (omega arith) (λ k q. zeros (suc k) (omega arith)) in
      cc (first, rest)

  get_or-batch : (values s : List R) (n k : ℕ) → k < n → get_or (batch ring values s n) k 𝟘 ≡ entry values s (length s) k
  unfolding batch
  get_or-batch values s n k h = get_or-map-range_with_len (λ x. entry values s (length s) x) 0 n k k 𝟘 h (omega arith)

  -- and adding it changes nothing
  pub left-nothing : (values s old : List R) → length s ≡ 0 → old ≡ zip2 ring.sum old (batch ring values s (length old))
  left-nothing values s old none =
      sym (zip-zeros old (batch ring values s (length old)) (length-batch ring values s (length old))
      (λ k h. get_or-batch values s (length old) k h ∙ no_points values s k none))

  -- the output of one entry
  pub batch-base : (adds : Bool) (values s out : List R) (o t r : R) → length values / length s ≡ 0 → length out ≡ 2 ^ (length values / length s) → o ≡ get_or out 0 o → t ≡ sum_of ring s
      → r ≡ (if adds then o ⊕ t else t) → set out 0 r ≡ left_by ring adds out (batch ring values s (length out))
  batch-base adds values s out o t r none size at sum is =
      let long : length out ≡ 1 = size ∙ ap (λ n. 2 ^ n) none in
      left-one ring adds out o t r long at is
      ∙ ap (λ l. left_by ring adds out l) (ap (λ y. y ∷ []) sum ∙ sym (batch-none values s none) ∙ ap (λ n. batch ring values s n) (sym long))

  -- without points nothing is added, or zeros are written; the flag is a number, and 0 for false
  pub batch-kept : (flag : ℕ) (values s out : List R) → (flag ≡ 0 → ⊥) → length s ≡ 0 → out ≡ left_by ring (not (nat_eq flag 0)) out (batch ring values s (length out))
  batch-kept flag values s out is none =
      let set_flag : not (nat_eq flag 0) ≡ true = ap not (ne_eqb flag 0 is) in
      rw set_flag (left-nothing values s out none)

  pub batch-cleared : (flag : ℕ) (values s out : List R) → flag ≡ 0 → length s ≡ 0 → map (λ x. 𝟘) out ≡ left_by ring (not (nat_eq flag 0)) out (batch ring values s (length out))
  batch-cleared zero values s out is none = zeros-batch values s (map (λ x. 𝟘) out) (length out) none (length-map out (λ x. 𝟘)) (λ k h. get_or-map (λ x. 𝟘) out k 𝟘 𝟘 h)
  batch-cleared (suc flag) values s out is none = absurd (omega arith)
