-- Elements two by two: their ring, and their lanes.
use Rattle.std.proofs.Common.{◌≡◌, ℕ, zero, suc, ◌+◌, ◌*◌, ◌/◌, ◌<◌, ◌≤◌, List, [], ◌∷◌, ◌++◌, length, get_or, take, drop, Bool, replicate, refl, sym, ap, ◌∙◌, arith, length-append, append_assoc}
use Rattle.std.proofs.lemmas.List.{map-append, append-nil, replicate-append-replicate, drop_more, drop_all, drop-take, take-take}
use Rattle.mlu_ring.specs.Ring.{Ring, RingLaws}
use Rattle.mlu_ring.specs.Lanes.{IsLaneByLane, logical}
use Rattle.mlu_ring.specs.Sums.{sum_of}
use Rattle.mlu_ring.specs.Matrices.{left_by, row_at}
use Rattle.mlu_ring.proofs.Rings.{sum_zero}
use Rattle.mlu_ring.proofs.Zips.{zip2-append}
use Rattle.mlu_point.proofs.Outputs.{left-append}
use Rattle.mlu_point.specs.Batches.{pairs, pair_ring, pair_lanes, AreShares}

both : {A B : Type 0} {a a' : A} {b b' : B} → a ≡ a' → b ≡ b' → ◌≡◌ {A = A × B} (a, b) (a', b')
both e f = λ i. (e i, f i)

pub pair_laws : {R : Type 0} (ring : Ring R) → RingLaws ring → RingLaws (pair_ring ring)
pair_laws ring laws = record {
  sum_assoc = λ a b c. both (laws.sum_assoc a.0 b.0 c.0) (laws.sum_assoc a.1 b.1 c.1);
  sum_comm = λ a b. both (laws.sum_comm a.0 b.0) (laws.sum_comm a.1 b.1);
  zero_sum = λ a. both (laws.zero_sum a.0) (laws.zero_sum a.1);
  negation_sum = λ a. both (laws.negation_sum a.0) (laws.negation_sum a.1);
  minus_is = λ a b. both (laws.minus_is a.0 b.0) (laws.minus_is a.1 b.1);
  product_assoc = λ a b c. both (laws.product_assoc a.0 b.0 c.0) (laws.product_assoc a.1 b.1 c.1);
  product_comm = λ a b. both (laws.product_comm a.0 b.0) (laws.product_comm a.1 b.1);
  one_product = λ a. both (laws.one_product a.0) (laws.one_product a.1);
  product_sum = λ a b c. both (laws.product_sum a.0 b.0 c.0) (laws.product_sum a.1 b.1 c.1);
}

module _ {P V : Type 0} (width : ℕ) (lanes : P → List V) (packed : Ring P) (ring : Ring V) (long : (p : P) → length (lanes p) ≡ width) where
  pub pair_long : (p : P × P) → length (pair_lanes lanes p) ≡ 2 * width
  pair_long p = length-append (lanes p.0) (lanes p.1) ∙ omega (arith, long p.0, long p.1)

  pub lanes-twice : (v : V) (p : P) → lanes p ≡ replicate width v → pair_lanes lanes (p, p) ≡ replicate (2 * width) v
  lanes-twice v p is = let twice : 2 * width ≡ width + width = omega arith in rw (is, twice) (replicate-append-replicate width width v)

  pub pair_lane_by_lane : IsLaneByLane width lanes packed ring → IsLaneByLane (2 * width) (pair_lanes lanes) (pair_ring packed) ring
  pair_lane_by_lane each = record {
    zero = lanes-twice ring.zero packed.zero each.zero;
    one = lanes-twice ring.one packed.one each.one;
    sum = λ p q. (λ i. each.sum p.0 q.0 i ++ each.sum p.1 q.1 i) ∙ sym (zip2-append ring.sum (lanes p.0) (lanes p.1) (lanes q.0) (lanes q.1) (long p.0 ∙ sym (long q.0)));
    minus = λ p q. (λ i. each.minus p.0 q.0 i ++ each.minus p.1 q.1 i) ∙ sym (zip2-append ring.minus (lanes p.0) (lanes p.1) (lanes q.0) (lanes q.1) (long p.0 ∙ sym (long q.0)));
    negation = λ p. (λ i. each.negation p.0 i ++ each.negation p.1 i) ∙ sym (map-append ring.negation (lanes p.0) (lanes p.1));
    product = λ p q. (λ i. each.product p.0 q.0 i ++ each.product p.1 q.1 i) ∙ sym (zip2-append ring.product (lanes p.0) (lanes p.1) (lanes q.0) (lanes q.1) (long p.0 ∙ sym (long q.0)));
  }

module _ {A : Type 0} where
  pub length-pairs : (xs : List A) (n : ℕ) → length xs ≡ 2 * n → length (pairs xs) ≡ n
  length-pairs [] n h = omega arith
  length-pairs (a ∷ []) n h = absurd (omega arith)
  length-pairs (a ∷ b ∷ xs) zero h = absurd (omega arith)
  length-pairs (a ∷ b ∷ xs) (suc n) h = let rest = length-pairs xs n (omega arith) in omega (arith, rest)

  pub get_or-pairs : (xs : List A) (n i : ℕ) (d : A × A) → length xs ≡ 2 * n → i < n → get_or (pairs xs) i d ≡ (get_or xs (2 * i) d.0, get_or xs (2 * i + 1) d.1)
  get_or-pairs [] n i d h q = absurd (omega arith)
  get_or-pairs (a ∷ []) n i d h q = absurd (omega arith)
  get_or-pairs (a ∷ b ∷ xs) zero i d h q = absurd (omega arith)
  get_or-pairs (a ∷ b ∷ xs) (suc n) zero d h q = refl
  get_or-pairs (a ∷ b ∷ xs) (suc n) (suc i) d h q =
      let first : 2 * suc i ≡ suc (suc (2 * i)) = omega arith in
      let second : 2 * suc i + 1 ≡ suc (suc (2 * i + 1)) = omega arith in
      get_or-pairs xs n i d (omega arith) (omega arith)
      ∙ sym (both (ap (λ k. get_or (a ∷ b ∷ xs) k d.0) first) (ap (λ k. get_or (a ∷ b ∷ xs) k d.1) second))

module _ {A : Type 0} where
  pub length-fours : (xs : List A) (n : ℕ) → length xs ≡ 4 * n → length (pairs (pairs xs)) ≡ n
  length-fours xs n h = length-pairs (pairs xs) n (length-pairs xs (2 * n) (omega (arith, h)))

  pub get_or-fours : (xs : List A) (n i : ℕ) (d : (A × A) × (A × A)) → length xs ≡ 4 * n → i < n
      → get_or (pairs (pairs xs)) i d ≡ ((get_or xs (4 * i) d.0.0, get_or xs (4 * i + 1) d.0.1), (get_or xs (4 * i + 2) d.1.0, get_or xs (4 * i + 3) d.1.1))
  get_or-fours xs n i d h q =
      let long : length xs ≡ 2 * (2 * n) = omega (arith, h) in
      let a : 2 * (2 * i) ≡ 4 * i = omega arith in
      let b : 2 * (2 * i) + 1 ≡ 4 * i + 1 = omega arith in
      let c : 2 * (2 * i + 1) ≡ 4 * i + 2 = omega arith in
      let e : 2 * (2 * i + 1) + 1 ≡ 4 * i + 3 = omega arith in
      get_or-pairs (pairs xs) n i d (length-pairs xs (2 * n) long) q
      ∙ both
      (get_or-pairs xs (2 * n) (2 * i) d.0 long (omega arith) ∙ both (ap (λ k. get_or xs k d.0.0) a) (ap (λ k. get_or xs k d.0.1) b))
      (get_or-pairs xs (2 * n) (2 * i + 1) d.1 long (omega arith) ∙ both (ap (λ k. get_or xs k d.1.0) c) (ap (λ k. get_or xs k d.1.1) e))

module _ {C R : Type 0} (share : R → C → R) where
  -- shares of four values, each split by the coordinate of its share
  pub are_fours : (share4 : (R × R) × (R × R) → C → (R × R) × (R × R)) → ((t : (R × R) × (R × R)) (c : C) → share4 t c ≡ ((share t.0.0 c, share t.0.1 c), (share t.1.0 c, share t.1.1 c)))
      → (new old : List R) (cs : List C) → length old ≡ 4 * length cs → length new ≡ length old
      → ((k i : ℕ) (d : R) (c : C) → i < length cs → 4 * i ≤ k → k < 4 * i + 4 → get_or new k d ≡ share (get_or old k d) (get_or cs i c))
      → AreShares share4 (pairs (pairs new)) (pairs (pairs old)) cs
  are_fours share4 by_parts new old cs size same each i d c h =
      let n = length cs in
      let within : i < length cs = rw (← length-fours old (length cs) size) h in
      let olds = get_or-fours old n i d size within in
      get_or-fours new n i d (same ∙ size) within
      ∙ both
      (both (each (4 * i) i d.0.0 c within (omega arith) (omega arith)) (each (4 * i + 1) i d.0.1 c within (omega arith) (omega arith)))
      (both (each (4 * i + 2) i d.1.0 c within (omega arith) (omega arith)) (each (4 * i + 3) i d.1.1 c within (omega arith) (omega arith)))
      ∙ sym (ap (λ t. share4 t (get_or cs i c)) olds ∙ by_parts _ (get_or cs i c))

module _ {R : Type 0} (ring : Ring R) (laws : RingLaws ring) where
  abbrev four : Ring ((R × R) × (R × R))
  four = pair_ring (pair_ring ring)

  -- the first four
  pub fours_first : (xs : List R) (a b c d : R) → 4 ≤ length xs
      → a ≡ get_or xs 0 a → b ≡ get_or xs 1 b → c ≡ get_or xs 2 c → d ≡ get_or xs 3 d
      → four.sum ((a, b), (c, d)) (sum_of four (drop 1 (pairs (pairs xs)))) ≡ sum_of four (pairs (pairs xs))
  fours_first (p ∷ q ∷ u ∷ v ∷ xs) a b c d long at_a at_b at_c at_d =
      λ j. four.sum ((at_a j, at_b j), (at_c j, at_d j)) (sum_of four (pairs (pairs xs)))
  fours_first xs a b c d long at_a at_b at_c at_d = absurd (omega arith)

  -- the sum of the fours before i, and of the one at i
  pub fours_more : (xs : List R) (n i : ℕ) (a b c d p q u v s t w x : R) → length xs ≡ 4 * n → i < n
      → p ≡ get_or xs (4 * i) p → q ≡ get_or xs (4 * i + 1) q → u ≡ get_or xs (4 * i + 2) u → v ≡ get_or xs (4 * i + 3) v
      → s ≡ ring.sum a p → t ≡ ring.sum b q → w ≡ ring.sum c u → x ≡ ring.sum d v
      → four.sum ((a, b), (c, d)) (sum_of four (drop i (pairs (pairs xs)))) ≡ sum_of four (pairs (pairs xs))
      → four.sum ((s, t), (w, x)) (sum_of four (drop (i + 1) (pairs (pairs xs)))) ≡ sum_of four (pairs (pairs xs))
  fours_more xs n i a b c d p q u v s t w x size h at_p at_q at_u at_v is_s is_t is_w is_x before =
      let fours = pairs (pairs xs) in
      let within : i < length (pairs (pairs xs)) = rw (length-fours xs n size) h in
      let here : get_or fours i ((p, q), (u, v)) ≡ ((p, q), (u, v)) = get_or-fours xs n i ((p, q), (u, v)) size h ∙ sym (both (both at_p at_q) (both at_u at_v)) in
      (λ j. four.sum ((is_s j, is_t j), (is_w j, is_x j)) (sum_of four (drop (i + 1) fours)))
      ∙ (pair_laws (pair_ring ring) (pair_laws ring laws)).sum_assoc ((a, b), (c, d)) ((p, q), (u, v)) (sum_of four (drop (i + 1) fours))
      ∙ ap (λ l. four.sum ((a, b), (c, d)) (sum_of four l)) (sym (drop_more fours i ((p, q), (u, v)) within ∙ ap (λ y. y ∷ drop (i + 1) fours) here))
      ∙ before

  pub fours_whole : (xs : List R) (n i : ℕ) (a b c d : R) → length xs ≡ 4 * n → n ≤ i
      → four.sum ((a, b), (c, d)) (sum_of four (drop i (pairs (pairs xs)))) ≡ sum_of four (pairs (pairs xs))
      → ((a, b), (c, d)) ≡ sum_of four (pairs (pairs xs))
  fours_whole xs n i a b c d size h before =
      let past : length (pairs (pairs xs)) ≤ i = rw (length-fours xs n size) h in
      sym (sum_zero four (pair_laws (pair_ring ring) (pair_laws ring laws)) ((a, b), (c, d)))
      ∙ ap (λ l. four.sum ((a, b), (c, d)) (sum_of four l)) (sym (drop_all i (pairs (pairs xs)) past))
      ∙ before

-- a row of four
pub row-before : {A : Type 0} (xs ys : List A) (s k : ℕ) → take s xs ≡ take s ys → k * 4 + 4 ≤ s → row_at 4 xs k ≡ row_at 4 ys k
row-before xs ys s k same within =
    sym (drop-take (k * 4) 4 xs)
    ∙ ap (drop (k * 4)) (sym (take-take (k * 4 + 4) s xs within) ∙ ap (take (k * 4 + 4)) same ∙ take-take (k * 4 + 4) s ys within)
    ∙ drop-take (k * 4) 4 ys

module _ {P V : Type 0} (lanes : P → List V) where
  -- the lanes of a share are those of its row
  pub lanes-four : (xs : List P) (n i : ℕ) (d : (P × P) × (P × P)) → length xs ≡ 4 * n → i < n → pair_lanes (pair_lanes lanes) (get_or (pairs (pairs xs)) i d) ≡ logical lanes (row_at 4 xs i)
  lanes-four [] n i d h q = absurd (omega arith)
  lanes-four (a ∷ []) n i d h q = absurd (omega arith)
  lanes-four (a ∷ b ∷ []) n i d h q = absurd (omega arith)
  lanes-four (a ∷ b ∷ c ∷ []) n i d h q = absurd (omega arith)
  lanes-four (a ∷ b ∷ c ∷ e ∷ xs) zero i d h q = absurd (omega arith)
  lanes-four (a ∷ b ∷ c ∷ e ∷ xs) (suc n) zero d h q =
      append_assoc (lanes a) (lanes b) (lanes c ++ lanes e)
      ∙ ap (λ t. lanes a ++ (lanes b ++ (lanes c ++ t))) (sym (append-nil (lanes e)))
  lanes-four (a ∷ b ∷ c ∷ e ∷ xs) (suc n) (suc i) d h q =
      let next : suc i * 4 ≡ suc (suc (suc (suc (i * 4)))) = omega arith in
      lanes-four xs n i d (omega arith) (omega arith) ∙ ap (λ k. logical lanes (take 4 (drop k (a ∷ b ∷ c ∷ e ∷ xs)))) (sym next)

-- an output left in two halves
pub halves-left : {R : Type 0} (ring : Ring R) (adds : Bool) (out low high a b : List R) → low ≡ take (length out / 2) out → high ≡ drop (length out / 2) out → length a ≡ length out / 2
    → left_by ring adds low a ++ left_by ring adds high b ≡ left_by ring adds out (a ++ b)
halves-left ring adds out low high a b is_low is_high size =
    (λ i. left_by ring adds (is_low i) a ++ left_by ring adds (is_high i) b) ∙ left-append ring adds (length out / 2) out a b size (omega arith)
