-- Rows against a table moved up by one place: a row that is read on by a place meets the last weight too.
use Rattle.std.proofs.Common.{◌≡◌, ℕ, ◌+◌, ◌-◌, ◌*◌, ◌<◌, ◌≤◌, ◌⊎◌, inl, inr, List, [], ◌∷◌, ◌++◌, length, map, get_or, take, drop, refl, sym, subst, ap, ◌∙◌, arith}
use Rattle.std.proofs.lemmas.Bool.{cases_lt}
use Rattle.std.proofs.lemmas.List.{length-map, length-append, get_or_append_left, get_or-append-add, take-map, drop-map, take_all, length-drop, get_or-drop, drop-drop, drop-take, take-take, get_or_default}
use Rattle.mlu_ring.specs.Matrices.{row_at}
use Rattle.mlu_ring.specs.Ring.{Ring, RingLaws}
use Rattle.mlu_ring.specs.Successor.{shifted}
use Rattle.mlu_ring.specs.Tables.{back, pair}
use Rattle.mlu_ring.proofs.Rings.{sum_zero, sum_negation}
use Rattle.mlu_ring.proofs.Shifted.{length-moved_up, pair-shifted}
use Rattle.mlu_ring.proofs.Tabulated.{get_or-tabulate}
use Rattle.mlu_ring.proofs.Totals.{pair-take}
use Rattle.mlu_kernel.specs.Kernels.{dots_of_rows}
use Rattle.mlu_ring.proofs.Groups.{pair-take_more}
use Rattle.mlu_eq.proofs.Compressions.{back_of_dots}
use Rattle.std.proofs.Math.Nat.{mul-pos}
use Rattle.mlu_ring.proofs.Rows.{row_end}

-- the rows of m + 1 places: those of all but the last, and that one
pub rows_and_last : (len m f p n v : ℕ) → 0 < p → 0 < n → v ≡ n → f + 1 ≡ m → len ≡ m * (p * n) → (0 < p * v) × (len ≡ f * (p * v) + p * v)
rows_and_last len m f p n v some wide is more size =
    let row : (f + 1) * (p * v) ≡ f * (p * v) + p * v = omega arith in
    (subst (λ k. 0 < p * k) (sym is) (mul-pos some wide), size ∙ ap (λ k. k * (p * n)) (sym more) ∙ ap (λ k. (f + 1) * (p * k)) (sym is) ∙ row)

module _ {R : Type 0} (ring : Ring R) (laws : RingLaws ring) where
  infixl 50 ◌⊕◌
  infixl 50 ◌⊖◌
  infixl 60 ◌⊗◌
  open ring use {sum as ◌⊕◌, product as ◌⊗◌, zero as 𝟘, negation as neg, minus as ◌⊖◌}

  minus_sum : (a b : R) → (a ⊕ b) ⊖ b ≡ a
  minus_sum a b = laws.minus_is (a ⊕ b) b ∙ laws.sum_assoc a b (neg b) ∙ ap (λ t. a ⊕ t) (sum_negation ring laws b) ∙ sum_zero ring laws a

  -- without the product of the last weight, the rest are those of the moved table
  pair-read_on : (w e : List R) (last border : R) → 0 < length w → length w < length e → last ≡ get_or w (length w - 1) last → border ≡ get_or e (length w) border
      → pair ring w (drop 1 e) ⊖ (last ⊗ border) ≡ pair ring (shifted ring w) e
  pair-read_on w e last border some more at_last at_border =
      let m = length w - 1 in
      let size : 1 + m ≡ length w = omega (arith, some) in
      let within : m < length (drop 1 e) = omega (arith, length-drop 1 e, more, some) in
      let read : border ≡ get_or (drop 1 e) m border = at_border ∙ sym (get_or-drop 1 e m border ∙ ap (λ k. get_or e k border) size) in
      ap (λ t. t ⊖ (last ⊗ border))
      (ap (λ v. pair ring v (drop 1 e)) (sym (take_all (m + 1) w (omega arith)))
      ∙ pair-take_more ring laws w (drop 1 e) m last border (omega arith) within at_last read)
      ∙ minus_sum (pair ring (take m w) (drop 1 e)) (last ⊗ border)
      ∙ sym (pair-shifted ring laws w e)

  pair-moved_row : (w e : List R) → 0 < length w → pair ring (shifted ring w) (take (length w) e) ≡ pair ring (shifted ring w) e
  pair-moved_row w e some =
      ap (λ k. pair ring (shifted ring w) (take k e)) (sym (length-moved_up 𝟘 w some)) ∙ pair-take ring laws (shifted ring w) e

  -- row y of m rows, read on by a place
  pub dot-read_on : (w e : List R) (m y : ℕ) (last : R) → 0 < length w → y < m → m * length w < length e → last ≡ get_or w (length w - 1) last
      → pair ring w (row_at (length w) (take (m * length w) (drop 1 e)) y) ⊖ (last ⊗ get_or e ((y + 1) * length w) 𝟘) ≡ pair ring (shifted ring w) (row_at (length w) e y)
  dot-read_on w e m y last some row more at_last =
      let n = length w in
      let border = get_or e ((y + 1) * n) 𝟘 in
      let end : y * length w + length w ≤ m * length w = row_end y m (length w) (m * length w) row refl in
      let left : y * length w + (m * length w - y * length w) ≡ m * length w = omega (arith, end) in
      let next : y * length w + length w ≡ (y + 1) * length w = omega arith in
      let turned : 1 + y * length w ≡ y * length w + 1 = omega arith in
      let moved =
      ap (λ k. take n (drop (y * n) (take k (drop 1 e)))) (sym left)
      ∙ ap (take n) (drop-take (y * n) (m * n - y * n) (drop 1 e))
      ∙ take-take n (m * n - y * n) (drop (y * n) (drop 1 e)) (omega (arith, end))
      ∙ ap (take n) (drop-drop (y * n) 1 e ∙ ap (λ k. drop k e) turned ∙ sym (drop-drop 1 (y * n) e)) in
      let read = get_or_default e ((y + 1) * n) 𝟘 border (omega (arith, end, next, more)) ∙ ap (λ k. get_or e k border) (sym next) ∙ sym (get_or-drop (y * n) e n border) in
      ap (λ t. t ⊖ (last ⊗ border)) (ap (pair ring w) moved ∙ pair-take ring laws w (drop 1 (drop (y * n) e)))
      ∙ pair-read_on w (drop (y * n) e) last border some (omega (arith, length-drop (y * n) e, end, more)) at_last read
      ∙ sym (pair-moved_row w (drop (y * n) e) some)

  -- the dots of rows that are read on by a place, without the products at the borders, and the last row
  pub back-read_on : {F : Type 0} (embed : F → R) (es begun rest : List F) (w dots new : List R) (f v : ℕ) (last x : R)
      → 0 < length w → v ≡ length w → length es ≡ f * v + v → last ≡ get_or w (length w - 1) last
      → begun ≡ take (f * v + 1) es → dots ≡ dots_of_rows ring w (map embed (take (length begun - 1) (drop 1 begun))) f → length new ≡ f
      → ((y : ℕ) → y < f → get_or new y 𝟘 ≡ get_or dots y 𝟘 ⊖ (last ⊗ get_or (map embed es) ((y + 1) * v) 𝟘))
      → rest ≡ drop (f * v + 1) es → x ≡ pair ring (take (length rest) w) (map embed rest)
      → new ++ x ∷ [] ≡ back ring (shifted ring w) (map embed es)
  back-read_on {F} embed es begun rest w dots new f v last x some is size at_last at_begun at_dots places taken at_rest at_x =
      let n = length w in
      let e = map embed es in
      let long : length (map embed es) ≡ f * length w + length w = length-map es embed ∙ size ∙ ap (λ k. f * k + k) is in
      let many = length-moved_up 𝟘 w some in
      let all : (f + 1) * length w ≡ f * length w + length w = omega arith in
      let turned : f * v + 1 ≡ 1 + f * v = omega arith in
      let rows =
      take_all (length begun - 1) (drop 1 begun) (omega (arith, length-drop 1 begun))
      ∙ ap (drop 1) (at_begun ∙ ap (λ k. take k es) turned)
      ∙ drop-take 1 (f * v) es
      ∙ ap (λ k. take (f * k) (drop 1 es)) is in
      let read = at_dots ∙ ap (λ r. dots_of_rows ring w r f) (ap (map embed) rows ∙ sym (take-map embed (f * n) (drop 1 es)) ∙ ap (take (f * n)) (sym (drop-map embed 1 es))) in
      back_of_dots ring laws (shifted ring w) e (new ++ x ∷ []) (f + 1)
      (subst (λ k. 0 < k) (sym many) some)
      (long ∙ sym all ∙ ap (λ k. (f + 1) * k) (sym many))
      (length-append new (x ∷ []) ∙ ap (λ k. k + 1) places)
      (λ k d h. place k d h read ∙ ap (λ j. pair ring (shifted ring w) (row_at j e k)) (sym many))
    where
      full_row : (k : ℕ) (d : R) → k < f → dots ≡ dots_of_rows ring w (take (f * length w) (drop 1 (map embed es))) f → get_or (new ++ x ∷ []) k d ≡ pair ring (shifted ring w) (row_at (length w) (map embed es) k)
      full_row k d h read =
          let rows = take (f * length w) (drop 1 (map embed es)) in
          let more : f * length w < length (map embed es) = omega (arith, some, length-map es embed, size, is, ap (λ j. f * j) is) in
          get_or_append_left new (x ∷ []) d k (omega (arith, h, places))
          ∙ get_or_default new k d 𝟘 (omega (arith, h, places))
          ∙ taken k h
          ∙ ap (λ t. t ⊖ (last ⊗ get_or (map embed es) ((k + 1) * v) 𝟘)) (ap (λ ts. get_or ts k 𝟘) read ∙ get_or-tabulate f (λ y. pair ring w (row_at (length w) rows y)) k 𝟘 h)
          ∙ ap (λ j. pair ring w (row_at (length w) rows k) ⊖ (last ⊗ get_or (map embed es) ((k + 1) * j) 𝟘)) is
          ∙ dot-read_on w (map embed es) f k last some h more at_last

      last_row : (d : R) → get_or (new ++ x ∷ []) f d ≡ pair ring (shifted ring w) (row_at (length w) (map embed es) f)
      last_row d =
          let e = map embed es in
          let at : f ≡ length new + 0 = omega (arith, places) in
          let border : f * v + 1 ≡ f * length w + 1 = ap (λ j. f * j + 1) is in
          let left : length rest ≡ length w - 1 = ap length at_rest ∙ length-drop (f * v + 1) es ∙ omega (arith, size, is) in
          ap (λ j. get_or (new ++ x ∷ []) j d) at
          ∙ get_or-append-add new (x ∷ []) 0 d
          ∙ at_x
          ∙ ap (λ j. pair ring (take j w) (map embed rest)) left
          ∙ ap (pair ring (take (length w - 1) w)) (ap (map embed) at_rest ∙ sym (drop-map embed (f * v + 1) es) ∙ ap (λ j. drop j e) border ∙ sym (drop-drop 1 (f * length w) e))
          ∙ sym (pair-shifted ring laws w (drop (f * length w) e))
          ∙ sym (pair-moved_row w (drop (f * length w) e) some)

      place : (k : ℕ) (d : R) → k < f + 1 → dots ≡ dots_of_rows ring w (take (f * length w) (drop 1 (map embed es))) f → get_or (new ++ x ∷ []) k d ≡ pair ring (shifted ring w) (row_at (length w) (map embed es) k)
      place k d h read = either (cases_lt k f)
        where
          either : (k < f) ⊎ (f ≤ k) → get_or (new ++ x ∷ []) k d ≡ pair ring (shifted ring w) (row_at (length w) (map embed es) k)
          either (inl before) = full_row k d before read
          either (inr after) =
              let end : k ≡ f = omega arith in
              ap (λ j. get_or (new ++ x ∷ []) j d) end ∙ last_row d ∙ ap (λ j. pair ring (shifted ring w) (row_at (length w) (map embed es) j)) (sym end)
