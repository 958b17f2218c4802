-- Tables compressed by a split table: rows added up by groups, and rows paired one by one.
use Rattle.std.proofs.Common.{◌≡◌, ℕ, zero, suc, ◌+◌, ◌*◌, ◌/◌, ◌^◌, ◌<◌, List, [], ◌∷◌, map, length, take, drop, set, get_or, replicate, refl, sym, subst, ap, ◌∙◌, arith}
use Rattle.std.proofs.Math.Nat.{mul_assoc, mul-div_cancel, mul-div_cancel_left, zero-div}
use Rattle.std.proofs.lemmas.List.{ext_get_or, get_or-drop, length-map, length-replicate, length-take-le}
use Rattle.std.proofs.lemmas.Nat.{pow_pos}
use Rattle.std.specs.Simd.Lanes.{zip2}
use Rattle.mlu_ring.specs.Ring.{Ring, RingLaws}
use Rattle.mlu_ring.specs.Lanes.{IsLaneByLane, logical}
use Rattle.mlu_ring.specs.Matrices.{row_at}
use Rattle.mlu_ring.specs.Tables.{pair, front, back}
use Rattle.mlu_ring.proofs.Folds.{length-back}
use Rattle.mlu_ring.proofs.Joined.{back-entry}
use Rattle.mlu_ring.proofs.Logical.{length-logical, logical-replicate}
use Rattle.mlu_ring.proofs.Tabulated.{length-tabulate, get_or-tabulate}
use Rattle.mlu_ring.proofs.SumsBelow.{sum_below-same}
use Rattle.mlu_ring.proofs.Totals.{pair-take}
use Rattle.mlu_ring.proofs.Univariate.{length-front}
use Rattle.mlu_kernel.specs.Kernels.{dots_of_rows, plus_rows}
use Rattle.mlu_kernel.proofs.PlusRows.{plus_rows-append, plus_rows-front}
use Rattle.mlu_eq.specs.Split.{contents}
use Rattle.mlu_eq.proofs.Contents.{length-contents, contents-take_more}
use Rattle.std.proofs.Math.Nat.{mul-pos}
use Rattle.mlu_eq.proofs.Zipped.{added_once, zip_zeros}

-- one more place is written
pub written_more : {A : Type 0} (f : ℕ → A) (ys : List A) (y : ℕ) (x : A) → y < length ys → x ≡ f y → ((k : ℕ) (d : A) → k < y → get_or ys k d ≡ f k) → (k : ℕ) (d : A) → k < y + 1 → get_or (set ys y x) k d ≡ f k
written_more f [] y x room is before k d h = absurd (omega arith)
written_more f (z ∷ ys) zero x room is before zero d h = is
written_more f (z ∷ ys) zero x room is before (suc k) d h = absurd (omega arith)
written_more f (z ∷ ys) (suc y) x room is before zero d h = before 0 d (omega arith)
written_more f (z ∷ ys) (suc y) x room is before (suc k) d h = written_more (λ j. f (suc j)) ys y x (omega arith) is (λ j e q. before (suc j) e (omega arith)) k d (omega arith)

module _ {R : Type 0} (ring : Ring R) (laws : RingLaws ring) where
  infixl 60 ◌⊗◌
  open ring use {product as ◌⊗◌, zero as 𝟘}

  -- one more entry of the first half, with a row for each weight
  pub plus_rows-contents_more : (old w eq0 e between : List R) (j r : ℕ) (x : R) → j < length eq0 → r ≡ length w * length old → x ≡ get_or eq0 j x
      → between ≡ plus_rows ring old (contents ring (take j eq0) w) e
      → plus_rows ring between (map (ring.product x) w) (take r (drop (j * r) e)) ≡ plus_rows ring old (contents ring (take (j + 1) eq0) w) e
  plus_rows-contents_more old w eq0 e between j r x h size at_x so_far =
      let s = length old in
      let v = contents ring (take j eq0) w in
      let u = map (ring.product x) w in
      let many : r ≡ length (map (ring.product x) w) * length old = size ∙ ap (λ k. k * length old) (sym (length-map w (ring.product x))) in
      let first : length (contents ring (take j eq0) w) ≡ j * length w = length-contents ring (take j eq0) w ∙ ap (λ k. k * length w) (length-take-le j eq0 (omega arith)) in
      let start : j * r ≡ length (contents ring (take j eq0) w) * length old =
      ap (λ k. j * k) size ∙ sym (mul_assoc j (length w) (length old)) ∙ ap (λ k. k * length old) (sym first) in
      ap (λ l. plus_rows ring l u (take r (drop (j * r) e))) so_far
      ∙ ap (λ k. plus_rows ring (plus_rows ring old v e) u (take k (drop (j * r) e))) many
      ∙ ap (λ k. plus_rows ring (plus_rows ring old v e) u (take (length u * s) (drop k e))) start
      ∙ plus_rows-append ring laws old v u e s refl
      ∙ ap (λ t. plus_rows ring old t e) (sym (contents-take_more ring eq0 w j x h at_x))

  -- over zeros the rows leave the compression
  pub plus_rows-zeros : (n : ℕ) (w e : List R) → 0 < length w → length e ≡ length w * n → plus_rows ring (replicate n 𝟘) w e ≡ front ring w e
  plus_rows-zeros n w e some h =
      plus_rows-front ring laws (replicate n 𝟘) w e some (h ∙ ap (λ k. length w * k) (sym (length-replicate n 𝟘)))
      ∙ zip_zeros ring laws n (front ring w e) (length-front ring w e n (ap (λ k. k / length w) h ∙ mul-div_cancel_left n some))

  -- what is added to zeros is written
  pub front-written : (n : ℕ) (w e old out : List R) → old ≡ replicate n 𝟘 → 0 < length w → length e ≡ length w * n → out ≡ plus_rows ring old w e → out ≡ front ring w e
  front-written n w e old out is some h made = made ∙ ap (λ o. plus_rows ring o w e) is ∙ plus_rows-zeros n w e some h

  -- without rows there is nothing to write
  pub back_of_nothing : (w e ys : List R) → length ys ≡ 0 → length e ≡ 0 → ys ≡ back ring w e
  back_of_nothing w e ys none empty =
      let rows : length (back ring w e) ≡ 0 = length-back ring w e ∙ ap (λ k. k / length w) empty ∙ zero-div (length w) in
      ext_get_or 𝟘 ys (back ring w e) (none ∙ sym rows) (λ k h. absurd (omega arith))

  -- an output that was filled with the dots of the rows
  pub back_of_dots : (w e ys : List R) (m : ℕ) → 0 < length w → length e ≡ m * length w → length ys ≡ m
      → ((k : ℕ) (d : R) → k < m → get_or ys k d ≡ pair ring w (take (length w) (drop (k * length w) e)))
      → ys ≡ back ring w e
  unfolding pair
  back_of_dots w e ys m some size long at =
      let n = length w in
      let rows : length e / length w ≡ m = ap (λ k. k / length w) size ∙ mul-div_cancel m some in
      ext_get_or 𝟘 ys (back ring w e) (long ∙ sym (length-back ring w e ∙ rows))
      (λ k h.
      at k 𝟘 (omega arith)
      ∙ pair-take ring laws w (drop (k * n) e)
      ∙ sum_below-same ring n (λ z. get_or w z 𝟘 ⊗ get_or (drop (k * n) e) z 𝟘) (λ z. get_or w z 𝟘 ⊗ get_or e (k * n + z) 𝟘)
      (λ z q. ap (λ t. get_or w z 𝟘 ⊗ t) (get_or-drop (k * n) e z 𝟘))
      ∙ sym (back-entry ring laws w e k m rows (omega arith)))

-- compressions by the table t, or by a moved one
module _ {B R : Type 0} (ring : Ring R) (laws : RingLaws ring) (embed : B → R) (moved : List R → List R) (same : (t : List R) → 0 < length t → length (moved t) ≡ length t)
    (t c : List R) (shown : c ≡ t) (some : 0 < length t) (e values : List B) (is : values ≡ e) (n : ℕ) (size : length e ≡ length t * n) where
  -- rows that are added to zeros
  pub compressed : (zeros new : List R) → zeros ≡ replicate n ring.zero → new ≡ plus_rows ring zeros (moved c) (map embed values) → new ≡ front ring (moved t) (map embed e)
  compressed zeros new zeroed made =
      let long = same t some in
      front-written ring laws n (moved t) (map embed e) zeros new zeroed
      (subst (λ m. 0 < m) (sym long) some)
      (length-map e embed ∙ size ∙ ap (λ m. m * n) (sym long))
      (made ∙ ap (λ x. plus_rows ring zeros (moved x) (map embed values)) shown ∙ ap (λ v. plus_rows ring zeros (moved t) (map embed v)) is)

-- the dots of all rows with packed weights
pub back_of_row_dots : {P B R : Type 0} (ring : Ring R) (lanes : P → List R) (f : B → R) (n l : ℕ) (ws : List P) (entries : List B) (out new : List R) → RingLaws ring → ((p : P) → length (lanes p) ≡ n) → n ≡ 2 ^ l → 0 < length ws
    → length entries ≡ length out * (length ws * n) → new ≡ dots_of_rows ring (logical lanes ws) (map f entries) (length out) → new ≡ back ring (logical lanes ws) (map f entries)
back_of_row_dots ring lanes f n l ws entries out new laws long width some size made =
    let table = logical lanes ws in
    let e = map f entries in
    let m = length out in
    let many = length-logical lanes n long ws in
    let wide = subst (λ k. 0 < k) (sym width) (pow_pos l) in
    made
    ∙ back_of_dots ring laws table e (dots_of_rows ring table e m) m
    (subst (λ k. 0 < k) (sym many) (mul-pos some wide))
    (length-map entries f ∙ size ∙ ap (λ k. m * k) (sym many))
    (length-tabulate m (λ y. pair ring table (row_at (length table) e y)))
    (λ k d h. get_or-tabulate m (λ y. pair ring table (row_at (length table) e y)) k d h)

-- the table, added once to packed zeros
pub joined_halves : {P R : Type 0} (ring : Ring R) (packed : Ring P) (lanes : P → List R) (n : ℕ) (eq0 : List R) (ws joined new : List P) (s : R) → RingLaws ring → IsLaneByLane n lanes packed ring → ((p : P) → length (lanes p) ≡ n)
    → s ≡ ring.one → joined ≡ replicate (length eq0 * length ws) packed.zero
    → logical lanes new ≡ zip2 ring.sum (logical lanes joined) (map (ring.product s) (contents ring eq0 (logical lanes ws))) → logical lanes new ≡ contents ring eq0 (logical lanes ws)
joined_halves ring packed lanes n eq0 ws joined new s laws each long one zeros made =
    let w = logical lanes ws in
    let table = contents ring eq0 w in
    let many = length-contents ring eq0 w ∙ ap (λ k. length eq0 * k) (length-logical lanes n long ws) in
    let empty = ap (logical lanes) zeros
    ∙ logical-replicate lanes n (length eq0 * length ws) packed.zero ring.zero each.zero
    ∙ ap (λ k. replicate k ring.zero) (mul_assoc (length eq0) (length ws) n ∙ sym many) in
    made ∙ added_once ring laws (length table) (logical lanes joined) table s refl empty one
