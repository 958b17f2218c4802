-- Sums of lists, and of the products of two lists, place by place.
use Rattle.std.proofs.Common.{◌≡◌, ℕ, zero, suc, ◌+◌, ◌*◌, ◌<◌, List, [], ◌∷◌, ◌++◌, length, take, drop, get_or, replicate, refl, sym, ap, ◌∙◌, arith, length-append}
use Rattle.std.specs.Simd.Lanes.{zip2}
use Rattle.std.proofs.lemmas.List.{get_or-take, get_or-drop, get_or_append_left, get_or-append-add, take_more, length-take-le}
use Rattle.mlu_ring.specs.Ring.{Ring, RingLaws}
use Rattle.mlu_ring.specs.Sums.{sum_of, sum_below}
use Rattle.mlu_ring.specs.Tables.{pair}
use Rattle.mlu_ring.specs.Lanes.{IsLists, IsLaneByLane, logical}
use Rattle.mlu_ring.proofs.Rings.{sum_zero, sum_left_comm}
use Rattle.mlu_ring.proofs.SumsBelow.{sum_below-same, sum_below-zero, sum_below-suc, sum_below-add}
use Rattle.mlu_ring.proofs.Logical.{length-logical, logical-take_more}

module _ {R : Type 0} (ring : Ring R) (laws : RingLaws ring) where
  infixl 50 ◌⊕◌
  infixl 60 ◌⊗◌
  open ring use {sum as ◌⊕◌, product as ◌⊗◌, zero as 𝟘, one as 𝟙}

  pub sum_below-one : (f : ℕ → R) → sum_below ring 1 f ≡ f 0
  sum_below-one f = sum_below-suc ring 0 f ∙ ap (λ t. f 0 ⊕ t) (sum_below-zero ring (λ k. f (suc k))) ∙ sum_zero ring laws (f 0)

  -- the last of n + 1 numbers
  pub sum_below-more : (n : ℕ) (f : ℕ → R) → sum_below ring (n + 1) f ≡ sum_below ring n f ⊕ f n
  sum_below-more n f =
      let at : n + 0 ≡ n = omega arith in
      sum_below-add ring laws n 1 f ∙ ap (λ t. sum_below ring n f ⊕ t) (sum_below-one (λ k. f (n + k)) ∙ ap f at)

  pub sum_of-append : (xs ys : List R) → sum_of ring (xs ++ ys) ≡ sum_of ring xs ⊕ sum_of ring ys
  sum_of-append [] ys = sym (laws.zero_sum (sum_of ring ys))
  sum_of-append (x ∷ xs) ys = simp (sum_of-append xs ys, laws.sum_assoc)

  -- one more entry
  pub sum_of-take_more : (xs : List R) (i : ℕ) (d : R) → i < length xs → sum_of ring (take (i + 1) xs) ≡ sum_of ring (take i xs) ⊕ get_or xs i d
  sum_of-take_more xs i d h =
      ap (sum_of ring) (take_more xs i d h) ∙ sum_of-append (take i xs) (get_or xs i d ∷ []) ∙ ap (λ t. sum_of ring (take i xs) ⊕ t) (sum_zero ring laws (get_or xs i d))

  pub sum_of-zeros : (n : ℕ) → sum_of ring (replicate n 𝟘) ≡ 𝟘
  sum_of-zeros zero = refl
  sum_of-zeros (suc n) = laws.zero_sum (sum_of ring (replicate n 𝟘)) ∙ sum_of-zeros n

  pub sum_of-zip_sum : (xs ys : List R) → length xs ≡ length ys → sum_of ring (zip2 ring.sum xs ys) ≡ sum_of ring xs ⊕ sum_of ring ys
  sum_of-zip_sum [] [] h = sym (laws.zero_sum 𝟘)
  sum_of-zip_sum [] (y ∷ ys) h = absurd (omega arith)
  sum_of-zip_sum (x ∷ xs) [] h = absurd (omega arith)
  sum_of-zip_sum (x ∷ xs) (y ∷ ys) h =
      let rest = sum_of-zip_sum xs ys (omega arith) in
      simp (rest, laws.sum_assoc, sum_left_comm ring laws)

  pub pair-nil : (e : List R) → pair ring [] e ≡ 𝟘
  unfolding pair
  pair-nil e = sum_below-zero ring (λ x. 𝟘 ⊗ get_or e x 𝟘)

  pub pair-cons : (x y : R) (w e : List R) → pair ring (x ∷ w) (y ∷ e) ≡ (x ⊗ y) ⊕ pair ring w e
  unfolding pair
  pair-cons x y w e = sum_below-suc ring (length w) (λ k. get_or (x ∷ w) k 𝟘 ⊗ get_or (y ∷ e) k 𝟘)

  pub sum_of-zip_product : (xs ys : List R) → length xs ≡ length ys → sum_of ring (zip2 ring.product xs ys) ≡ pair ring xs ys
  sum_of-zip_product [] [] h = sym (pair-nil [])
  sum_of-zip_product [] (y ∷ ys) h = absurd (omega arith)
  sum_of-zip_product (x ∷ xs) [] h = absurd (omega arith)
  sum_of-zip_product (x ∷ xs) (y ∷ ys) h = ap (λ t. (x ⊗ y) ⊕ t) (sum_of-zip_product xs ys (omega arith)) ∙ sym (pair-cons x y xs ys)

  -- weights in two parts, each with the terms at its places
  pub weighted-append : (v w : List R) (f : ℕ → R) → sum_below ring (length (v ++ w)) (λ y. get_or (v ++ w) y 𝟘 ⊗ f y) ≡ sum_below ring (length v) (λ y. get_or v y 𝟘 ⊗ f y) ⊕ sum_below ring (length w) (λ y. get_or w y 𝟘 ⊗ f (length v + y))
  weighted-append v w f =
      let m = length v in
      let term = λ (y : ℕ). get_or (v ++ w) y 𝟘 ⊗ f y in
      ap (λ k. sum_below ring k term) (length-append v w)
      ∙ sum_below-add ring laws m (length w) term
      ∙ ap (λ t. t ⊕ sum_below ring (length w) (λ y. term (m + y)))
      (sum_below-same ring m term (λ y. get_or v y 𝟘 ⊗ f y) (λ y h. ap (λ t. t ⊗ f y) (get_or_append_left v w 𝟘 y h)))
      ∙ ap (λ t. sum_below ring m (λ y. get_or v y 𝟘 ⊗ f y) ⊕ t)
      (sum_below-same ring (length w) (λ y. term (m + y)) (λ y. get_or w y 𝟘 ⊗ f (m + y)) (λ y h. ap (λ t. t ⊗ f (m + y)) (get_or-append-add v w y 𝟘)))

  pub pair-append : (v w e : List R) → pair ring (v ++ w) e ≡ pair ring v e ⊕ pair ring w (drop (length v) e)
  unfolding pair
  pair-append v w e =
      weighted-append v w (λ x. get_or e x 𝟘)
      ∙ ap (λ t. sum_below ring (length v) (λ x. get_or v x 𝟘 ⊗ get_or e x 𝟘) ⊕ t)
      (sum_below-same ring (length w) (λ x. get_or w x 𝟘 ⊗ get_or e (length v + x) 𝟘) (λ x. get_or w x 𝟘 ⊗ get_or (drop (length v) e) x 𝟘)
      (λ x h. ap (λ t. get_or w x 𝟘 ⊗ t) (sym (get_or-drop (length v) e x 𝟘))))

  -- entries past the first list do not count
  pub pair-take : (w e : List R) → pair ring w (take (length w) e) ≡ pair ring w e
  unfolding pair
  pair-take w e =
      sum_below-same ring (length w) (λ x. get_or w x 𝟘 ⊗ get_or (take (length w) e) x 𝟘) (λ x. get_or w x 𝟘 ⊗ get_or e x 𝟘)
      (λ x h. ap (λ t. get_or w x 𝟘 ⊗ t) (get_or-take (length w) e x 𝟘 h))

-- the lanes of a packed value, added up
module _ {P V : Type 0} (packed : Ring P) (ring : Ring V) (laws : RingLaws ring) (lanes : P → List V) (of_lanes : List V → P) (n : ℕ) (parts : IsLists n lanes of_lanes) (each : IsLaneByLane n lanes packed ring) where
  pub total-zero : sum_of ring (lanes packed.zero) ≡ ring.zero
  total-zero = ap (sum_of ring) each.zero ∙ sum_of-zeros ring laws n

  pub total-sum : (p q : P) → sum_of ring (lanes (packed.sum p q)) ≡ ring.sum (sum_of ring (lanes p)) (sum_of ring (lanes q))
  total-sum p q = ap (sum_of ring) (each.sum p q) ∙ sum_of-zip_sum ring laws (lanes p) (lanes q) (parts.length-parts p ∙ sym (parts.length-parts q))

  pub total-product : (p q : P) → sum_of ring (lanes (packed.product p q)) ≡ pair ring (lanes p) (lanes q)
  total-product p q = ap (sum_of ring) (each.product p q) ∙ sum_of-zip_product ring laws (lanes p) (lanes q) (parts.length-parts p ∙ sym (parts.length-parts q))

  -- one more packed weight, with its block of the entries
  pub pair_logical-take_more : (ps : List P) (e : List V) (i : ℕ) (p : P) → i < length ps → pair ring (logical lanes (take (i + 1) ps)) e ≡ ring.sum (pair ring (logical lanes (take i ps)) e) (pair ring (lanes (get_or ps i p)) (take n (drop (i * n) e)))
  pair_logical-take_more ps e i p h =
      let w = logical lanes (take i ps) in
      let v = lanes (get_or ps i p) in
      let at : length w ≡ i * n = length-logical lanes n parts.length-parts (take i ps) ∙ ap (λ k. k * n) (length-take-le i ps (omega arith)) in
      ap (λ vs. pair ring vs e) (logical-take_more lanes n parts.length-parts ps i p h)
      ∙ pair-append ring laws w v e
      ∙ ap (λ t. ring.sum (pair ring w e) t)
      (ap (λ k. pair ring v (drop k e)) at ∙ sym (pair-take ring laws v (drop (i * n) e)) ∙ ap (λ k. pair ring v (take k (drop (i * n) e))) (parts.length-parts (get_or ps i p)))

  -- the packed dot, at one more packed weight
  pub total-dot_more : (acc p q : P) (ps : List P) (e : List V) (i : ℕ) → i < length ps → p ≡ get_or ps i p → lanes q ≡ take n (drop (i * n) e) → sum_of ring (lanes acc) ≡ pair ring (logical lanes (take i ps)) e → sum_of ring (lanes (packed.sum acc (packed.product p q))) ≡ pair ring (logical lanes (take (i + 1) ps)) e
  total-dot_more acc p q ps e i h at_p at_q so_far =
      let block = take n (drop (i * n) e) in
      total-sum acc (packed.product p q)
      ∙ ap (λ t. ring.sum t (sum_of ring (lanes (packed.product p q)))) so_far
      ∙ ap (λ t. ring.sum (pair ring (logical lanes (take i ps)) e) t) (total-product p q ∙ ap (λ vs. pair ring (lanes p) vs) at_q ∙ ap (λ t. pair ring (lanes t) block) at_p)
      ∙ sym (pair_logical-take_more ps e i p h)
