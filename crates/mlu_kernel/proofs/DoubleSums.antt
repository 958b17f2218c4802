-- Double sums, one row at a time.
use Rattle.std.proofs.Common.{◌≡◌, ℕ, ◌+◌, ◌*◌, ◌<◌, ◌≤◌, List, [], ◌∷◌, length, take, drop, get_or, sym, ap, ◌∙◌, arith}
use Rattle.std.proofs.lemmas.List.{get_or-take, get_or-drop, get_or_default, length-take-le}
use Rattle.mlu_ring.specs.Ring.{Ring, RingLaws}
use Rattle.mlu_ring.specs.Sums.{sum_below}
use Rattle.mlu_ring.specs.Tables.{pair}
use Rattle.mlu_ring.proofs.SumsBelow.{sum_below-same, sum_below-product, sum_below-zero}
use Rattle.mlu_ring.proofs.Totals.{sum_below-more, pair-take}
use Rattle.mlu_kernel.specs.Kernels.{double_sum}

module _ {R : Type 0} (ring : Ring R) (laws : RingLaws ring) where
  infixl 50 ◌⊕◌
  infixl 60 ◌⊗◌
  open ring use {sum as ◌⊕◌, product as ◌⊗◌, zero as 𝟘}

  pub double_sum-none : (rows w e : List R) → length rows ≡ 0 → double_sum ring rows w e ≡ 𝟘
  unfolding double_sum
  double_sum-none [] w e h = sum_below-zero ring (λ j. sum_below ring (length w) (λ i. (𝟘 ⊗ get_or w i 𝟘) ⊗ get_or e (j * length w + i) 𝟘))
  double_sum-none (x ∷ rows) w e h = absurd (omega arith)

  -- each row's weight times the dot of w with the row
  pub double_sum-rows : (rows w e : List R) → double_sum ring rows w e ≡ sum_below ring (length rows) (λ j. get_or rows j 𝟘 ⊗ pair ring w (drop (j * length w) e))
  unfolding double_sum pair
  double_sum-rows rows w e =
      let n = length w in
      sum_below-same ring (length rows)
      (λ j. sum_below ring n (λ i. (get_or rows j 𝟘 ⊗ get_or w i 𝟘) ⊗ get_or e (j * n + i) 𝟘))
      (λ j. get_or rows j 𝟘 ⊗ sum_below ring n (λ i. get_or w i 𝟘 ⊗ get_or (drop (j * n) e) i 𝟘))
      (λ j h.
      sum_below-same ring n
      (λ i. (get_or rows j 𝟘 ⊗ get_or w i 𝟘) ⊗ get_or e (j * n + i) 𝟘)
      (λ i. get_or rows j 𝟘 ⊗ (get_or w i 𝟘 ⊗ get_or (drop (j * n) e) i 𝟘))
      (λ i q. rw (get_or-drop (j * n) e i 𝟘) (laws.product_assoc _ _ _))
      ∙ sum_below-product ring laws n (get_or rows j 𝟘) (λ i. get_or w i 𝟘 ⊗ get_or (drop (j * n) e) i 𝟘))

  -- one more row
  pub double_sum-take_more : (rows w e : List R) (j : ℕ) (d : R) → j < length rows → double_sum ring (take (j + 1) rows) w e ≡ double_sum ring (take j rows) w e ⊕ (get_or rows j d ⊗ pair ring w (take (length w) (drop (j * length w) e)))
  double_sum-take_more rows w e j d h =
      let term = λ (k : ℕ). get_or rows k 𝟘 ⊗ pair ring w (drop (k * length w) e) in
      let front : (m : ℕ) → m ≤ length rows → double_sum ring (take m rows) w e ≡ sum_below ring m term =
      λ m q.
      double_sum-rows (take m rows) w e
      ∙ ap (λ k. sum_below ring k (λ x. get_or (take m rows) x 𝟘 ⊗ pair ring w (drop (x * length w) e))) (length-take-le m rows q)
      ∙ sum_below-same ring m (λ x. get_or (take m rows) x 𝟘 ⊗ pair ring w (drop (x * length w) e)) term
      (λ x r. ap (λ t. t ⊗ pair ring w (drop (x * length w) e)) (get_or-take m rows x 𝟘 r)) in
      front (j + 1) (omega arith)
      ∙ sum_below-more ring laws j term
      ∙ ap (λ t. t ⊕ term j) (sym (front j (omega arith)))
      ∙ ap (λ t. double_sum ring (take j rows) w e ⊕ t)
      (ap (λ t. t ⊗ pair ring w (drop (j * length w) e)) (get_or_default rows j 𝟘 d h)
      ∙ ap (λ t. get_or rows j d ⊗ t) (sym (pair-take ring laws w (drop (j * length w) e))))

  -- the same, from what is read and what was summed
  pub double_sum_step : (rows w e : List R) (j r : ℕ) (x acc dot : R) → j < length rows → r ≡ length w → x ≡ get_or rows j x
      → dot ≡ pair ring w (take r (drop (j * r) e))
      → acc ≡ double_sum ring (take j rows) w e
      → acc ⊕ (x ⊗ dot) ≡ double_sum ring (take (j + 1) rows) w e
  double_sum_step rows w e j r x acc dot h long at_x is so_far =
      ap (λ t. t ⊕ (x ⊗ dot)) so_far
      ∙ ap (λ t. double_sum ring (take j rows) w e ⊕ t)
      (ap (λ t. t ⊗ dot) at_x ∙ ap (λ t. get_or rows j x ⊗ t) (is ∙ ap (λ k. pair ring w (take k (drop (j * k) e))) long))
      ∙ sym (double_sum-take_more rows w e j x h)
