-- The point in a column of a matrix.
use Rattle.std.proofs.Common.{◌≡◌, ℕ, suc, ◌+◌, ◌*◌, ◌/◌, ◌<◌, List, [], ◌∷◌, ◌++◌, map, length, length-append, get_or, drop, sym, ap, ◌∙◌, arith}
use Rattle.std.specs.List.{range_with_len}
use Rattle.std.proofs.Math.Nat.{mul-div_cancel}
use Rattle.std.proofs.lemmas.List.{get_or-drop, get_or_append_left, get_or-append-add}
use Rattle.std.proofs.lemmas.List.FromFn.{length-map-range_with_len}
use Rattle.mlu_ring.specs.Ring.{Ring}
use Rattle.mlu_ring.specs.Matrices.{column}
use Rattle.mlu_ring.proofs.Rows.{place-within}
use Rattle.mlu_ring.proofs.SumsBelow.{map_from}
use Rattle.mlu_ring.proofs.Doubling.{map_range-add}

module _ {R : Type 0} (ring : Ring R) where
  -- the point of a column is its first coordinate before the point of the other rows
  pub column-first : (values : List R) (w i h : ℕ) → length values / w ≡ suc h → length (drop w values) / w ≡ h → column ring values w i ≡ get_or values i ring.zero ∷ column ring (drop w values) w i
  unfolding column
  column-first values w i h rows fewer =
      let f = λ (j : ℕ). get_or values (j * w + i) ring.zero in
      let g = λ (j : ℕ). get_or (drop w values) (j * w + i) ring.zero in
      let none : 0 * w + i ≡ i = omega arith in
      ap (λ n. map f (range_with_len 0 n)) rows
      ∙ ap (λ l. f 0 ∷ l)
      (map_from 1 0 h f g
      (λ k q.
      let later : (1 + k) * w + i ≡ w + ((0 + k) * w + i) = omega arith in
      ap (λ n. get_or values n ring.zero) later ∙ sym (get_or-drop w values ((0 + k) * w + i) ring.zero)))
      ∙ ap (λ n. get_or values n ring.zero ∷ map g (range_with_len 0 h)) none
      ∙ ap (λ n. get_or values i ring.zero ∷ map g (range_with_len 0 n)) (sym fewer)

  pub length-column : (values : List R) (w i : ℕ) → length (column ring values w i) ≡ length values / w
  unfolding column
  length-column values w i = length-map-range_with_len _ 0 (length values / w)

  pub column-none : (values : List R) (w i : ℕ) → length values / w ≡ 0 → column ring values w i ≡ []
  unfolding column
  column-none values w i none = ap (λ n. map (λ j. get_or values (j * w + i) ring.zero) (range_with_len 0 n)) none

  -- the point of a column goes on in the rows below
  pub column-append : (a b : List R) (w i m h : ℕ) → i < w → length a ≡ m * w → length b ≡ h * w → column ring (a ++ b) w i ≡ column ring a w i ++ column ring b w i
  unfolding column
  column-append a b w i m h below size_a size_b =
      let some : 0 < w = omega (arith, below) in
      let f = λ (j : ℕ). get_or (a ++ b) (j * w + i) ring.zero in
      let fa = λ (j : ℕ). get_or a (j * w + i) ring.zero in
      let fb = λ (j : ℕ). get_or b (j * w + i) ring.zero in
      let whole : length (a ++ b) ≡ (m + h) * w = omega (arith, length-append a b, size_a, size_b) in
      let rows : length (a ++ b) / w ≡ m + h = ap (λ n. n / w) whole ∙ mul-div_cancel (m + h) some in
      let rows_a : length a / w ≡ m = ap (λ n. n / w) size_a ∙ mul-div_cancel m some in
      let rows_b : length b / w ≡ h = ap (λ n. n / w) size_b ∙ mul-div_cancel h some in
      ap (λ n. map f (range_with_len 0 n)) rows
      ∙ map_range-add f 0 m h
      ∙ ap (λ l. l ++ map f (range_with_len (0 + m) h))
      (map_from 0 0 m f fa
      (λ j q.
      let at : 0 + j ≡ j = omega arith in
      let inside : j * w + i < length a = omega (arith, size_a, place-within j m i w q below) in
      ap f at ∙ get_or_append_left a b ring.zero (j * w + i) inside ∙ ap fa (sym at)))
      ∙ ap (λ l. map fa (range_with_len 0 m) ++ l)
      (map_from (0 + m) 0 h f fb
      (λ j q.
      let at : 0 + j ≡ j = omega arith in
      let later : (0 + m + j) * w + i ≡ length a + (j * w + i) = omega (arith, size_a) in
      ap (λ n. get_or (a ++ b) n ring.zero) later ∙ get_or-append-add a b (j * w + i) ring.zero ∙ ap fb (sym at)))
      ∙ ap (λ n. map fa (range_with_len 0 n) ++ map fb (range_with_len 0 h)) (sym rows_a)
      ∙ ap (λ n. map fa (range_with_len 0 (length a / w)) ++ map fb (range_with_len 0 n)) (sym rows_b)
