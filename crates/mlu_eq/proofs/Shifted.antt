-- The contents of a split table moved up by one place, by the rows of the first half.
use Rattle.std.proofs.Common.{◌≡◌, ℕ, zero, suc, ◌+◌, ◌-◌, ◌*◌, ◌<◌, List, [], ◌∷◌, ◌++◌, length, map, get_or, take, drop, refl, sym, ap, ◌∙◌, arith}
use Rattle.std.proofs.Math.Nat.{le-mul_of_pos_right}
use Rattle.std.proofs.Math.Seq.{take-append-add, take-append_seam}
use Rattle.std.proofs.lemmas.List.{length-map, length-append, get_or-map, take-map, take_all, drop-map, length-drop, length-take-le, drop-drop, ext_get_or}
use Rattle.mlu_ring.specs.Ring.{Ring, RingLaws}
use Rattle.mlu_ring.specs.Sums.{sum_below}
use Rattle.mlu_ring.specs.Tables.{pair}
use Rattle.mlu_ring.specs.Successor.{shifted}
use Rattle.mlu_ring.proofs.Rings.{zero_product, sum_zero}
use Rattle.mlu_ring.proofs.Shifted.{pair-shifted}
use Rattle.mlu_ring.proofs.SumsBelow.{sum_below-same, sum_below-none, sum_below-product}
use Rattle.mlu_ring.proofs.Totals.{pair-nil, pair-append, pair-take}
use Rattle.mlu_kernel.specs.Kernels.{plus_rows}
use Rattle.mlu_kernel.proofs.PlusRows.{plus_rows-none, plus_rows-append, length-plus_rows, get_or-plus_rows}
use Rattle.mlu_eq.specs.Split.{contents}
use Rattle.mlu_eq.proofs.Contents.{contents-take_more, length-contents}

-- all but the last of a joined list
pub but_last-append : {A : Type 0} (a b : List A) → 0 < length b → take (length (a ++ b) - 1) (a ++ b) ≡ a ++ take (length b - 1) b
but_last-append a b some =
    let size : length (a ++ b) - 1 ≡ length a + (length b - 1) = omega (arith, length-append a b) in
    ap (λ k. take k (a ++ b)) size ∙ take-append-add a b (length b - 1)

no-rows : (n : ℕ) → 0 * n ≡ 0
no-rows n = omega arith

-- what is left of a list from a place on, as a slice
to-end : {A : Type 0} (b : ℕ) (xs : List A) → take (length xs - b) (drop b xs) ≡ drop b xs
to-end b xs = take_all (length xs - b) (drop b xs) (omega (arith, length-drop b xs))

-- past whole rows and one place more, all places of the last row but one are left
pub rows_left : {A : Type 0} (es : List A) (m k l n s o : ℕ) → 0 < l → n ≡ l → k ≡ m + 1 → length es ≡ k * (l * s) → o ≡ s
    → length (take (length es - (m * n + 1) * s) (drop ((m * n + 1) * s) es)) + o ≡ l * o
rows_left es m k l n s o some is more size same =
    let border : (m * n + 1) * s ≡ m * (l * s) + s = ap (λ j. (m * j + 1) * s) is ∙ omega arith in
    let all : length es ≡ m * (l * s) + l * s = size ∙ ap (λ j. j * (l * s)) more ∙ omega arith in
    let turned : s * l ≡ l * s = omega arith in
    let room = le-mul_of_pos_right s some in
    let left : length es - (m * n + 1) * s + s ≡ l * s = omega (arith, border, all, room, turned) in
    ap (λ j. j + o) (ap length (to-end ((m * n + 1) * s) es) ∙ length-drop ((m * n + 1) * s) es)
    ∙ ap (λ j. length es - (m * n + 1) * s + j) same
    ∙ left
    ∙ ap (λ j. l * j) (sym same)

pub no-entries : {A : Type 0} (xs : List A) → length xs ≡ 0 → xs ≡ []
no-entries [] h = refl
no-entries (x ∷ xs) h = absurd (omega arith)

at-end : {A : Type 0} (full : List A) (x d : A) → x ≡ get_or (full ++ x ∷ []) (length full) d
at-end [] x d = refl
at-end (y ∷ full) x d = at-end full x d

module _ {R : Type 0} (ring : Ring R) (laws : RingLaws ring) where
  infixl 50 ◌⊕◌
  infixl 60 ◌⊗◌
  open ring use {sum as ◌⊕◌, product as ◌⊗◌, zero as 𝟘, one as 𝟙}

  -- the contents, with the row of the last entry of the first half apart
  pub contents-last : (full w : List R) (x : R) → contents ring (full ++ x ∷ []) w ≡ contents ring full w ++ map (ring.product x) w
  contents-last full w x =
      let eq0 = full ++ x ∷ [] in
      let size : length (full ++ x ∷ []) ≡ length full + 1 = length-append full (x ∷ []) in
      ap (λ rows. contents ring rows w) (sym (take_all (length full + 1) eq0 (omega (arith, size))))
      ∙ contents-take_more ring eq0 w (length full) x (omega (arith, size)) (at-end full x x)
      ∙ ap (λ rows. contents ring rows w ++ map (ring.product x) w) (take-append_seam full (x ∷ []))

  -- all entries but the last
  but_last-contents : (full w : List R) (x : R) → 0 < length w → take (length (contents ring (full ++ x ∷ []) w) - 1) (contents ring (full ++ x ∷ []) w) ≡ contents ring full w ++ map (ring.product x) (take (length w - 1) w)
  but_last-contents full w x some =
      let row = map (ring.product x) w in
      let long = length-map w (ring.product x) in
      ap (λ c. take (length c - 1) c) (contents-last full w x)
      ∙ but_last-append (contents ring full w) row (omega (arith, long, some))
      ∙ ap (λ n. contents ring full w ++ take (n - 1) row) long
      ∙ ap (λ r. contents ring full w ++ r) (take-map (ring.product x) (length w - 1) w)

  pub pair-scale : (x : R) (w e : List R) → pair ring (map (ring.product x) w) e ≡ x ⊗ pair ring w e
  unfolding pair
  pair-scale x w e =
      ap (λ n. sum_below ring n (λ y. get_or (map (ring.product x) w) y 𝟘 ⊗ get_or e y 𝟘)) (length-map w (ring.product x))
      ∙ sum_below-same ring (length w) (λ y. get_or (map (ring.product x) w) y 𝟘 ⊗ get_or e y 𝟘) (λ y. x ⊗ (get_or w y 𝟘 ⊗ get_or e y 𝟘))
      (λ y h. ap (λ t. t ⊗ get_or e y 𝟘) (get_or-map (ring.product x) w y 𝟘 𝟘 h) ∙ laws.product_assoc x (get_or w y 𝟘) (get_or e y 𝟘))
      ∙ sum_below-product ring laws (length w) x (λ y. get_or w y 𝟘 ⊗ get_or e y 𝟘)

  -- the dot of the moved table: the whole rows before the last one, and the last one cut by a place
  pub pair-shifted_rows : (full w e : List R) (x : R) → 0 < length w
      → pair ring (shifted ring (contents ring (full ++ x ∷ []) w)) e ≡ pair ring (contents ring full w) (drop 1 e) ⊕ (x ⊗ pair ring (take (length w - 1) w) (drop (length full * length w + 1) e))
  pair-shifted_rows full w e x some =
      let a = contents ring full w in
      let b = take (length w - 1) w in
      pair-shifted ring laws (contents ring (full ++ x ∷ []) w) e
      ∙ ap (λ c. pair ring c (drop 1 e)) (but_last-contents full w x some)
      ∙ pair-append ring laws a (map (ring.product x) b) (drop 1 e)
      ∙ ap (λ t. pair ring a (drop 1 e) ⊕ t) (pair-scale x b (drop (length a) (drop 1 e)) ∙ ap (λ r. x ⊗ pair ring b r) (drop-drop (length a) 1 e ∙ ap (λ k. drop k e) (ap (λ k. 1 + k) (length-contents ring full w) ∙ omega arith)))

  -- rows past those of the weights do not count
  pub plus_rows-take : (old w e : List R) (s : ℕ) → length old ≡ s → plus_rows ring old w (take (length w * s) e) ≡ plus_rows ring old w e
  plus_rows-take old w e s is =
      let none : length {A = R} [] * s ≡ 0 = omega arith in
      ap (λ o. plus_rows ring o w (take (length w * s) e)) (sym (plus_rows-none ring laws old [] e (omega arith)))
      ∙ ap (λ k. plus_rows ring (plus_rows ring old [] e) w (take (length w * s) (drop k e))) (sym none)
      ∙ plus_rows-append ring laws old [] w e s is

  -- a row of weight zero changes nothing
  pub plus_rows-zero : (old e : List R) → plus_rows ring old (𝟘 ∷ []) e ≡ old
  plus_rows-zero old e =
      ext_get_or 𝟘 (plus_rows ring old (𝟘 ∷ []) e) old (length-plus_rows ring laws old (𝟘 ∷ []) e)
      (λ z q.
      let place : z < length old = omega (arith, q, length-plus_rows ring laws old (𝟘 ∷ []) e) in
      get_or-plus_rows ring laws old (𝟘 ∷ []) e z place
      ∙ ap (λ t. get_or old z 𝟘 ⊕ t) (sum_below-same ring 1 (λ y. get_or (𝟘 ∷ []) y 𝟘 ⊗ get_or e (y * length old + z) 𝟘) (λ y. 𝟘) (λ y h. nothing y (get_or e (y * length old + z) 𝟘)) ∙ sum_below-none ring laws 1)
      ∙ sum_zero ring laws (get_or old z 𝟘))
    where
      nothing : (y : ℕ) (t : R) → get_or (𝟘 ∷ []) y 𝟘 ⊗ t ≡ 𝟘
      nothing zero t = zero_product ring laws t
      nothing (suc y) t = zero_product ring laws t

  -- the rows with the moved weights: those from the second row on, with all weights but the last
  pub plus_rows-shifted : (old w e : List R) → plus_rows ring old (shifted ring w) e ≡ plus_rows ring old (take (length w - 1) w) (drop (length old) e)
  plus_rows-shifted old w e =
      let b = take (length w - 1) w in
      let s = length old in
      sym (plus_rows-append ring laws old (𝟘 ∷ []) b e s refl)
      ∙ ap (λ o. plus_rows ring o b (take (length b * s) (drop (1 * s) e))) (plus_rows-zero old e)
      ∙ plus_rows-take old b (drop (1 * s) e) s refl
      ∙ ap (λ k. plus_rows ring old b (drop k e)) (omega arith)

  -- the whole rows before the last one, and the last one cut by a place
  pub plus_rows-shifted_rows : (old full w e : List R) (x : R) (s : ℕ) → 0 < length w → length old ≡ s
      → plus_rows ring (plus_rows ring old (contents ring full w) (drop s e)) (map (ring.product x) (take (length w - 1) w)) (drop ((length full * length w + 1) * s) e) ≡ plus_rows ring old (shifted ring (contents ring (full ++ x ∷ []) w)) e
  plus_rows-shifted_rows old full w e x s some is =
      let a = contents ring full w in
      let b = map (ring.product x) (take (length w - 1) w) in
      let first = plus_rows ring old a (drop s e) in
      let long : length first ≡ s = length-plus_rows ring laws old a (drop s e) ∙ is in
      let at : (length full * length w + 1) * s ≡ s + length full * length w * s = omega arith in
      ap (λ k. plus_rows ring first b (drop k e)) at
      ∙ ap (λ r. plus_rows ring first b r) (sym (drop-drop (length full * length w * s) s e))
      ∙ ap (λ k. plus_rows ring first b (drop (k * s) (drop s e))) (sym (length-contents ring full w))
      ∙ sym (plus_rows-take first b (drop (length a * s) (drop s e)) s long)
      ∙ plus_rows-append ring laws old a b (drop s e) s is
      ∙ ap (λ c. plus_rows ring old c (drop s e)) (sym (but_last-contents full w x some))
      ∙ ap (λ k. plus_rows ring old (take (length (contents ring (full ++ x ∷ []) w) - 1) (contents ring (full ++ x ∷ []) w)) (drop k e)) (sym is)
      ∙ sym (plus_rows-shifted old (contents ring (full ++ x ∷ []) w) e)

  -- no rows: the moved table is one zero
  pub pair-shifted_none : (w e : List R) → pair ring (shifted ring (contents ring [] w)) e ≡ 𝟘
  pair-shifted_none w e =
      let none : length (contents ring [] w) ≡ 0 = length-contents ring [] w ∙ no-rows (length w) in
      pair-shifted ring laws (contents ring [] w) e
      ∙ ap (λ c. pair ring c (drop 1 e)) (no-entries (take (length (contents ring [] w) - 1) (contents ring [] w)) (length-take-le (length (contents ring [] w) - 1) (contents ring [] w) (omega arith) ∙ omega (arith, none)))
      ∙ pair-nil ring laws (drop 1 e)

  pub plus_rows-shifted_none : (old w e : List R) → plus_rows ring old (shifted ring (contents ring [] w)) e ≡ old
  plus_rows-shifted_none old w e =
      let none : length (contents ring [] w) ≡ 0 = length-contents ring [] w ∙ no-rows (length w) in
      let few : length (contents ring [] w) - 1 ≡ 0 = omega (arith, none) in
      plus_rows-shifted old (contents ring [] w) e
      ∙ plus_rows-none ring laws old (take (length (contents ring [] w) - 1) (contents ring [] w)) (drop (length old) e)
      (ap (λ k. k * length old) (length-take-le (length (contents ring [] w) - 1) (contents ring [] w) (omega arith) ∙ few) ∙ no-rows (length old))

  -- no places
  pub plus_rows-no_places : (old w e : List R) → length old ≡ 0 → plus_rows ring old w e ≡ old
  plus_rows-no_places old w e none = plus_rows-none ring laws old w e (ap (λ k. length w * k) none ∙ omega arith)

  -- the dot of the moved table, from the slices of the entries
  pub pair-shifted_slices : {F : Type 0} (embed : F → R) (es : List F) (full w : List R) (x : R) (n : ℕ) → 0 < length w → n ≡ length w → length es ≡ (length full + 1) * length w
      → pair ring (contents ring full w) (map embed (take (length full * n + 1 - 1) (drop 1 es))) ⊕ (x ⊗ pair ring (take (length (take (length es - (length full * n + 1)) (drop (length full * n + 1) es))) w) (map embed (take (length es - (length full * n + 1)) (drop (length full * n + 1) es)))) ≡ pair ring (shifted ring (contents ring (full ++ x ∷ []) w)) (map embed es)
  pair-shifted_slices embed es full w x n some is size =
      let a = contents ring full w in
      let e = map embed es in
      let b = length full * n + 1 in
      let rest = take (length es - b) (drop b es) in
      let border : length full * n + 1 ≡ length full * length w + 1 = ap (λ k. length full * k + 1) is in
      let rows : (length full + 1) * length w ≡ length full * length w + length w = omega arith in
      let left : length (take (length es - (length full * n + 1)) (drop (length full * n + 1) es)) ≡ length w - 1 =
      ap length (to-end b es) ∙ length-drop b es ∙ omega (arith, border, rows, size) in
      let first : length full * n + 1 - 1 ≡ length (contents ring full w) = omega (arith, border, length-contents ring full w) in
      let whole = sym (take-map embed (length full * n + 1 - 1) (drop 1 es)) ∙ ap (take (length full * n + 1 - 1)) (sym (drop-map embed 1 es)) ∙ ap (λ k. take k (drop 1 e)) first in
      ap (λ v. pair ring a v ⊕ (x ⊗ pair ring (take (length rest) w) (map embed rest))) whole
      ∙ ap (λ t. t ⊕ (x ⊗ pair ring (take (length rest) w) (map embed rest))) (pair-take ring laws a (drop 1 e))
      ∙ ap (λ k. pair ring a (drop 1 e) ⊕ (x ⊗ pair ring (take k w) (map embed rest))) left
      ∙ ap (λ v. pair ring a (drop 1 e) ⊕ (x ⊗ pair ring (take (length w - 1) w) v)) (ap (map embed) (to-end b es) ∙ sym (drop-map embed b es) ∙ ap (λ k. drop k e) border)
      ∙ sym (pair-shifted_rows full w e x some)

  -- the rows with the moved weights, from the slices of the entries
  pub plus_rows-shifted_slices : {F : Type 0} (embed : F → R) (es : List F) (old first full w : List R) (x : R) (n s : ℕ) → 0 < length w → n ≡ length w → length old ≡ s
      → first ≡ plus_rows ring old (contents ring full w) (map embed (take ((length full * n + 1) * s - s) (drop s es)))
      → plus_rows ring first (map (ring.product x) (take (length w - 1) w)) (map embed (take (length es - (length full * n + 1) * s) (drop ((length full * n + 1) * s) es))) ≡ plus_rows ring old (shifted ring (contents ring (full ++ x ∷ []) w)) (map embed es)
  plus_rows-shifted_slices embed es old first full w x n s some is places made =
      let a = contents ring full w in
      let e = map embed es in
      let u = map (ring.product x) (take (length w - 1) w) in
      let b = (length full * n + 1) * s in
      let border : (length full * n + 1) * s ≡ (length full * length w + 1) * s = ap (λ k. (length full * k + 1) * s) is in
      let apart : (length full * length w + 1) * s ≡ length full * length w * s + s = omega arith in
      let room : (length full * n + 1) * s - s ≡ length (contents ring full w) * s = omega (arith, border, apart, ap (λ k. k * s) (length-contents ring full w)) in
      let begun : first ≡ plus_rows ring old a (drop s e) =
      made
      ∙ ap (plus_rows ring old a) (sym (take-map embed ((length full * n + 1) * s - s) (drop s es)) ∙ ap (take ((length full * n + 1) * s - s)) (sym (drop-map embed s es)) ∙ ap (λ k. take k (drop s e)) room)
      ∙ plus_rows-take old a (drop s e) s places in
      ap (λ l. plus_rows ring l u (map embed (take (length es - b) (drop b es)))) begun
      ∙ ap (plus_rows ring (plus_rows ring old a (drop s e)) u) (ap (map embed) (to-end b es) ∙ sym (drop-map embed b es) ∙ ap (λ k. drop k e) border)
      ∙ plus_rows-shifted_rows old full w e x s some places
