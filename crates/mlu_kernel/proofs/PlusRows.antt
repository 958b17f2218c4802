-- Weighted rows added to a list.
use Rattle.std.proofs.Common.{◌≡◌, ℕ, ◌+◌, ◌*◌, ◌/◌, ◌<◌, List, [], ◌∷◌, ◌++◌, map, length, take, drop, set, get_or, replicate, refl, sym, ap, ◌∙◌, arith}
use Rattle.std.specs.Simd.Lanes.{zip2}
use Rattle.std.proofs.Math.Nat.{mul-div_cancel_left, mul_assoc}
use Rattle.std.proofs.lemmas.List.{ext_get_or, get_or-take, get_or-drop, get_or-map, length-map, length-take-le, take_more, map-append, take-map, drop-map}
use Rattle.std.proofs.lemmas.List.FromFn.{get_or-map-range_with_len, length-map-range_with_len}
use Rattle.std.proofs.lemmas.Simd.{length-zip2, get_or-zip2}
use Rattle.mlu_ring.specs.Ring.{Ring, RingLaws}
use Rattle.mlu_ring.specs.Sums.{sum_below}
use Rattle.mlu_ring.specs.Tables.{front}
use Rattle.mlu_ring.specs.Lanes.{IsLists, IsLaneByLane, logical}
use Rattle.mlu_ring.proofs.Rings.{sum_zero}
use Rattle.mlu_ring.proofs.Joined.{front-entry}
use Rattle.mlu_ring.proofs.Rows.{place-within}
use Rattle.mlu_ring.proofs.SumsBelow.{sum_below-same, sum_below-zero}
use Rattle.mlu_ring.proofs.LaneProducts.{lanes-product_splat}
use Rattle.mlu_ring.proofs.Logical.{length-logical, logical-take_more, zip_block_more}
use Rattle.mlu_ring.proofs.Totals.{sum_below-one, weighted-append}
use Rattle.mlu_kernel.specs.Kernels.{plus_rows}

module _ {R : Type 0} (ring : Ring R) (laws : RingLaws ring) where
  infixl 50 ◌⊕◌
  infixl 60 ◌⊗◌
  open ring use {sum as ◌⊕◌, product as ◌⊗◌, zero as 𝟘}

  pub length-front : (w e : List R) → length (front ring w e) ≡ length e / length w
  unfolding front
  length-front w e = length-map-range_with_len (λ z. sum_below ring (length w) (λ y. get_or w y 𝟘 ⊗ get_or e (y * (length e / length w) + z) 𝟘)) 0 (length e / length w)

  -- what the rows add to entry z
  abbrev column : ℕ → List R → List R → ℕ → R
  column s w e z = sum_below ring (length w) (λ y. get_or w y 𝟘 ⊗ get_or e (y * s + z) 𝟘)

  pub length-plus_rows : (old w e : List R) → length (plus_rows ring old w e) ≡ length old
  unfolding plus_rows
  length-plus_rows old w e = length-map-range_with_len (λ z. get_or old z 𝟘 ⊕ column (length old) w e z) 0 (length old)

  pub get_or-plus_rows : (old w e : List R) (z : ℕ) → z < length old → get_or (plus_rows ring old w e) z 𝟘 ≡ get_or old z 𝟘 ⊕ sum_below ring (length w) (λ y. get_or w y 𝟘 ⊗ get_or e (y * length old + z) 𝟘)
  unfolding plus_rows
  get_or-plus_rows old w e z h = get_or-map-range_with_len (λ z. get_or old z 𝟘 ⊕ column (length old) w e z) 0 (length old) z z 𝟘 h (omega arith)

  -- a list with the entries of plus_rows
  pub plus_rows_by_entry : (old w e sums : List R) → length sums ≡ length old → ((z : ℕ) → z < length old → get_or sums z 𝟘 ≡ get_or old z 𝟘 ⊕ column (length old) w e z) → sums ≡ plus_rows ring old w e
  plus_rows_by_entry old w e sums long at =
      ext_get_or 𝟘 sums (plus_rows ring old w e) (long ∙ sym (length-plus_rows old w e)) (λ z q. let place : z < length old = omega arith in at z place ∙ sym (get_or-plus_rows old w e z place))

  -- no weights, or no places
  pub plus_rows-none : (old w e : List R) → length w * length old ≡ 0 → plus_rows ring old w e ≡ old
  plus_rows-none old [] e h =
      sym (plus_rows_by_entry old [] e old refl (λ z q. sym (ap (λ t. get_or old z 𝟘 ⊕ t) (sum_below-zero ring (λ y. 𝟘 ⊗ get_or e (y * length old + z) 𝟘)) ∙ sum_zero ring laws (get_or old z 𝟘))))
  plus_rows-none old (x ∷ w) e h = sym (plus_rows_by_entry old (x ∷ w) e old refl (λ z q. absurd (omega arith)))

  -- weights in two parts, each with its rows
  pub plus_rows-append : (old v w e : List R) (s : ℕ) → length old ≡ s → plus_rows ring (plus_rows ring old v e) w (take (length w * s) (drop (length v * s) e)) ≡ plus_rows ring old (v ++ w) e
  plus_rows-append old v w e s is =
      let first = plus_rows ring old v e in
      let rest = take (length w * s) (drop (length v * s) e) in
      let long = length-plus_rows old v e in
      plus_rows_by_entry old (v ++ w) e (plus_rows ring first w rest) (length-plus_rows first w rest ∙ long)
      (λ z q.
      let place : z < s = omega arith in
      get_or-plus_rows first w rest z (omega (arith, long))
      ∙ ap (λ t. t ⊕ column (length first) w rest z) (get_or-plus_rows old v e z q)
      ∙ ap (λ k. (get_or old z 𝟘 ⊕ column (length old) v e z) ⊕ column k w rest z) long
      ∙ laws.sum_assoc (get_or old z 𝟘) (column (length old) v e z) (column (length old) w rest z)
      ∙ ap (λ k. get_or old z 𝟘 ⊕ (column k v e z ⊕ column k w rest z)) is
      ∙ ap (λ t. get_or old z 𝟘 ⊕ (column s v e z ⊕ t))
      (sum_below-same ring (length w) (λ y. get_or w y 𝟘 ⊗ get_or rest (y * s + z) 𝟘) (λ y. get_or w y 𝟘 ⊗ get_or e ((length v + y) * s + z) 𝟘)
      (λ y r.
      let at : length v * s + (y * s + z) ≡ (length v + y) * s + z = omega arith in
      ap (λ t. get_or w y 𝟘 ⊗ t)
      (get_or-take (length w * s) (drop (length v * s) e) (y * s + z) 𝟘 (place-within y (length w) z s r place)
      ∙ get_or-drop (length v * s) e (y * s + z) 𝟘
      ∙ ap (λ k. get_or e k 𝟘) at)))
      ∙ ap (λ t. get_or old z 𝟘 ⊕ t) (sym (weighted-append ring laws v w (λ y. get_or e (y * s + z) 𝟘)))
      ∙ ap (λ k. get_or old z 𝟘 ⊕ column k (v ++ w) e z) (sym is))

  -- some weights: the old entries plus the compression of the rows
  pub plus_rows-front : (old w e : List R) → 0 < length w → length e ≡ length w * length old → plus_rows ring old w e ≡ zip2 ring.sum old (front ring w e)
  plus_rows-front old w e some h =
      let rows : length e / length w ≡ length old = ap (λ k. k / length w) h ∙ mul-div_cancel_left (length old) some in
      let long = length-front w e ∙ rows in
      sym (plus_rows_by_entry old w e (zip2 ring.sum old (front ring w e)) (length-zip2 ring.sum old (front ring w e) (sym long))
      (λ z q.
      get_or-zip2 ring.sum old (front ring w e) z 𝟘 𝟘 𝟘 q (omega (arith, long))
      ∙ ap (λ t. get_or old z 𝟘 ⊕ t) (front-entry ring laws w e z (length old) rows q)))

  -- one more weight with its row
  pub plus_rows-take_more : (old w e between : List R) (k s : ℕ) (x : R) → k < length w → length old ≡ s → x ≡ get_or w k x → between ≡ plus_rows ring old (take k w) e → plus_rows ring between (x ∷ []) (take s (drop (k * s) e)) ≡ plus_rows ring old (take (k + 1) w) e
  plus_rows-take_more old w e between k s x h is at_x so_far =
      let one : s ≡ length (x ∷ []) * s = omega arith in
      ap (λ l. plus_rows ring l (x ∷ []) (take s (drop (k * s) e))) so_far
      ∙ ap (λ m. plus_rows ring (plus_rows ring old (take k w) e) (x ∷ []) (take m (drop (k * s) e))) one
      ∙ ap (λ m. plus_rows ring (plus_rows ring old (take k w) e) (x ∷ []) (take (length (x ∷ []) * s) (drop (m * s) e))) (sym (length-take-le k w (omega arith)))
      ∙ plus_rows-append old (take k w) (x ∷ []) e s is
      ∙ ap (λ y. plus_rows ring old (take k w ++ y ∷ []) e) at_x
      ∙ ap (λ v. plus_rows ring old v e) (sym (take_more w k x h))

  -- one row
  pub zip2-row : (old e : List R) (x : R) → length old ≡ length e → zip2 ring.sum old (map (ring.product x) e) ≡ plus_rows ring old (x ∷ []) e
  zip2-row old e x h =
      let row = map (ring.product x) e in
      let long = length-map e (ring.product x) in
      plus_rows_by_entry old (x ∷ []) e (zip2 ring.sum old row) (length-zip2 ring.sum old row (h ∙ sym long))
      (λ z q.
      let at : 0 * length old + z ≡ z = omega arith in
      get_or-zip2 ring.sum old row z 𝟘 𝟘 𝟘 q (omega (arith, long))
      ∙ ap (λ t. get_or old z 𝟘 ⊕ t)
      (get_or-map (ring.product x) e z 𝟘 𝟘 (omega arith)
      ∙ ap (λ k. x ⊗ get_or e k 𝟘) (sym at)
      ∙ sym (sum_below-one ring laws (λ y. get_or (x ∷ []) y 𝟘 ⊗ get_or e (y * length old + z) 𝟘))))

module _ {P V : Type 0} (packed : Ring P) (ring : Ring V) (laws : RingLaws ring) (lanes : P → List V) (of_lanes : List V → P) (n : ℕ) (parts : IsLists n lanes of_lanes) (each : IsLaneByLane n lanes packed ring) where
  -- the loop that adds one row, packed value by packed value
  pub row_more : (ps : List P) (old e : List V) (z : ℕ) (x : V) (p b : P) → z < length ps → length old ≡ length ps * n → length old ≡ length e
      → logical lanes ps ≡ zip2 ring.sum (take (z * n) old) (take (z * n) (map (ring.product x) e)) ++ drop (z * n) old
      → p ≡ get_or ps z p → lanes b ≡ map (ring.product x) (take n (drop (z * n) e))
      → logical lanes (set ps z (packed.sum p b)) ≡ zip2 ring.sum (take ((z + 1) * n) old) (take ((z + 1) * n) (map (ring.product x) e)) ++ drop ((z + 1) * n) old
  row_more ps old e z x p b h many long is at_p at_b =
      let block = at_b ∙ sym (take-map (ring.product x) n (drop (z * n) e)) ∙ ap (λ vs. take n vs) (sym (drop-map (ring.product x) (z * n) e)) in
      zip_block_more lanes n parts.length-parts ring.sum ps old (map (ring.product x) e) z p (packed.sum p b) h many (long ∙ sym (length-map e (ring.product x))) is at_p
      (each.sum p b ∙ ap (λ vs. zip2 ring.sum (lanes p) vs) block)

  -- one more packed weight, scaled, with a row for each of its lanes
  pub rows_more : (ps : List P) (old e between : List V) (i r : ℕ) (x : V) (p b : P) → i < length ps → r ≡ n * length old
      → p ≡ get_or ps i p → lanes b ≡ replicate n x
      → between ≡ plus_rows ring old (map (ring.product x) (logical lanes (take i ps))) e
      → plus_rows ring between (lanes (packed.product p b)) (take r (drop (i * r) e)) ≡ plus_rows ring old (map (ring.product x) (logical lanes (take (i + 1) ps))) e
  rows_more ps old e between i r x p b h size at_p at_b so_far =
      let s = length old in
      let v = map (ring.product x) (logical lanes (take i ps)) in
      let w = lanes (packed.product p b) in
      let scaled = lanes-product_splat packed ring laws lanes of_lanes n parts each p b x at_b ∙ ap (λ q. map (ring.product x) (lanes q)) at_p in
      let first : length (map (ring.product x) (logical lanes (take i ps))) ≡ i * n =
      length-map (logical lanes (take i ps)) (ring.product x) ∙ length-logical lanes n parts.length-parts (take i ps) ∙ ap (λ k. k * n) (length-take-le i ps (omega arith)) in
      let many : r ≡ length (lanes (packed.product p b)) * length old = size ∙ ap (λ k. k * length old) (sym (parts.length-parts (packed.product p b))) in
      let start : i * r ≡ length (map (ring.product x) (logical lanes (take i ps))) * length old =
      ap (λ k. i * k) size ∙ sym (mul_assoc i n (length old)) ∙ ap (λ k. k * length old) (sym first) in
      ap (λ l. plus_rows ring l w (take r (drop (i * r) e))) so_far
      ∙ ap (λ k. plus_rows ring (plus_rows ring old v e) w (take k (drop (i * r) e))) many
      ∙ ap (λ k. plus_rows ring (plus_rows ring old v e) w (take (length w * s) (drop k e))) start
      ∙ plus_rows-append ring laws old v w e s refl
      ∙ ap (λ u. plus_rows ring old (v ++ u) e) scaled
      ∙ ap (λ u. plus_rows ring old u e)
      (sym (ap (map (ring.product x)) (logical-take_more lanes n parts.length-parts ps i p h) ∙ map-append (ring.product x) (logical lanes (take i ps)) (lanes (get_or ps i p))))
