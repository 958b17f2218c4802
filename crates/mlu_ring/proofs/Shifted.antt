-- Tables moved by one place, and the table of the successors by them.
use Rattle.std.proofs.Common.{◌≡◌, ℕ, zero, suc, ◌+◌, ◌-◌, ◌<◌, ◌⊎◌, inl, inr, List, length, get_or, take, drop, set, eqb, eq-eqb, cond, ◌≢◌, sym, ap, ◌∙◌, arith, true, false}
use Rattle.std.proofs.lemmas.Bool.{ne_eqb}
use Rattle.std.proofs.lemmas.Bool.Decides.{eqb_tells}
use Rattle.std.proofs.lemmas.List.{get_or-take, get_or-drop, length-take-le, ext_get_or, get_or-set_same, get_or-set_other, length-set}
use Rattle.mlu_ring.specs.Ring.{Ring, RingLaws}
use Rattle.mlu_ring.specs.Sums.{sum_below}
use Rattle.mlu_ring.specs.Tables.{pair}
use Rattle.mlu_ring.specs.Successor.{pushed, moved_up, shifted}
use Rattle.mlu_ring.proofs.Rings.{product_zero, zero_product, product_one, sum_zero}
use Rattle.mlu_ring.proofs.SumsBelow.{sum_below-same, sum_below-suc, sum_below-none}
use Rattle.mlu_ring.proofs.Totals.{sum_below-more}
use Rattle.mlu_ring.proofs.Successor.{IsStep, step-within, sum_below-one, sum-pushed, length-pushed, get_or-pushed}

pub length-moved_up : {A : Type 0} (x : A) (w : List A) → 0 < length w → length (moved_up x w) ≡ length w
length-moved_up x w some =
    let rest = length-take-le (length w - 1) w (omega arith) in
    omega (arith, rest, some)

one-more : (x : ℕ) → suc x ≡ x + 1
one-more x = omega arith

one-before : (x : ℕ) → 1 + x ≡ x + 1
one-before x = omega arith

module _ {R : Type 0} (ring : Ring R) (laws : RingLaws ring) where
  infixl 50 ◌⊕◌
  infixl 60 ◌⊗◌
  open ring use {sum as ◌⊕◌, product as ◌⊗◌, zero as 𝟘, one as 𝟙}

  -- the products with all weights but the last, from the second entry on
  abbrev later : List R → List R → R
  later w e = sum_below ring (length w - 1) (λ x. get_or w x 𝟘 ⊗ get_or e (x + 1) 𝟘)

  shifted-later : (w e : List R) → pair ring (shifted ring w) e ≡ later w e
  unfolding pair
  shifted-later w e =
      let m = length w - 1 in
      let size : length (take m w) ≡ m = length-take-le m w (omega arith) in
      let f = λ (x : ℕ). get_or (take m w) x 𝟘 ⊗ get_or e (suc x) 𝟘 in
      sum_below-suc ring (length (take m w)) (λ x. get_or (shifted ring w) x 𝟘 ⊗ get_or e x 𝟘)
      ∙ ap (λ t. t ⊕ sum_below ring (length (take m w)) f) (zero_product ring laws (get_or e 0 𝟘))
      ∙ laws.zero_sum (sum_below ring (length (take m w)) f)
      ∙ ap (λ n. sum_below ring n f) size
      ∙ sum_below-same ring m f (λ x. get_or w x 𝟘 ⊗ get_or e (x + 1) 𝟘) (λ x h. ap (λ t. t ⊗ get_or e (suc x) 𝟘) (get_or-take m w x 𝟘 h) ∙ ap (λ k. get_or w x 𝟘 ⊗ get_or e k 𝟘) (one-more x))

  taken-later : (w e : List R) → pair ring (take (length w - 1) w) (drop 1 e) ≡ later w e
  unfolding pair
  taken-later w e =
      let m = length w - 1 in
      let size : length (take m w) ≡ m = length-take-le m w (omega arith) in
      let f = λ (x : ℕ). get_or (take m w) x 𝟘 ⊗ get_or (drop 1 e) x 𝟘 in
      ap (λ n. sum_below ring n f) size
      ∙ sum_below-same ring m f (λ x. get_or w x 𝟘 ⊗ get_or e (x + 1) 𝟘) (λ x h. ap (λ t. t ⊗ get_or (drop 1 e) x 𝟘) (get_or-take m w x 𝟘 h) ∙ ap (λ t. get_or w x 𝟘 ⊗ t) (get_or-drop 1 e x 𝟘 ∙ ap (λ k. get_or e k 𝟘) (one-before x)))

  -- the products with the moved weights
  pub pair-shifted : (w e : List R) → pair ring (shifted ring w) e ≡ pair ring (take (length w - 1) w) (drop 1 e)
  pair-shifted w e = shifted-later w e ∙ sym (taken-later w e)

  -- the products with the pushed weights are those with the moved ones, and that of the last weight where it goes
  pub pair-pushed : (to : ℕ → ℕ) (w e : List R) (s : ℕ) → IsStep (length w) s to → pair ring (pushed ring to w) e ≡ pair ring (shifted ring w) e ⊕ (get_or w (length w - 1) 𝟘 ⊗ get_or e s 𝟘)
  unfolding pair
  pair-pushed to w e s step =
      let n = length w in
      let m = n - 1 in
      let rows : n ≡ m + 1 = omega (arith, step.inside) in
      let term = λ (x : ℕ). get_or e (to x) 𝟘 ⊗ get_or w x 𝟘 in
      let before : sum_below ring m term ≡ later w e =
      sum_below-same ring m term (λ x. get_or w x 𝟘 ⊗ get_or e (x + 1) 𝟘) (λ x h. ap (λ k. get_or e k 𝟘 ⊗ get_or w x 𝟘) (step.more x h) ∙ laws.product_comm (get_or e (x + 1) 𝟘) (get_or w x 𝟘)) in
      let last : term m ≡ get_or w m 𝟘 ⊗ get_or e s 𝟘 = ap (λ k. get_or e k 𝟘 ⊗ get_or w m 𝟘) step.last ∙ laws.product_comm (get_or e s 𝟘) (get_or w m 𝟘) in
      ap (λ k. sum_below ring k (λ y. get_or (pushed ring to w) y 𝟘 ⊗ get_or e y 𝟘)) (length-pushed ring laws to w)
      ∙ sum_below-same ring n (λ y. get_or (pushed ring to w) y 𝟘 ⊗ get_or e y 𝟘) (λ y. get_or e y 𝟘 ⊗ get_or (pushed ring to w) y 𝟘) (λ y h. laws.product_comm (get_or (pushed ring to w) y 𝟘) (get_or e y 𝟘))
      ∙ sum-pushed ring laws to w (λ y. get_or e y 𝟘) (step-within n s to step)
      ∙ ap (λ k. sum_below ring k term) rows
      ∙ sum_below-more ring laws m term
      ∙ ap (λ t. t ⊕ term m) (before ∙ sym (shifted-later w e))
      ∙ ap (λ t. pair ring (shifted ring w) e ⊕ t) last

  -- what comes to row y from the rows before the last
  abbrev come : List R → ℕ → R
  come w y = sum_below ring (length w - 1) (λ x. cond (eqb (x + 1) y) (get_or w x 𝟘) 𝟘)

  one-place : (w : List R) (x k : ℕ) → cond (eqb (x + 1) (suc k)) (get_or w x 𝟘) 𝟘 ≡ get_or w x 𝟘 ⊗ cond (eqb k x) 𝟙 𝟘
  one-place w x k = split (eqb_tells k x)
    where
      split : ((eqb k x ≡ true) × (k ≡ x)) ⊎ ((eqb k x ≡ false) × (k ≢ x)) → cond (eqb (x + 1) (suc k)) (get_or w x 𝟘) 𝟘 ≡ get_or w x 𝟘 ⊗ cond (eqb k x) 𝟙 𝟘
      split (inl (is, same)) =
          ap (λ b. cond b (get_or w x 𝟘) 𝟘) (eq-eqb (x + 1) (suc k) (omega (arith, same)))
          ∙ sym (ap (λ b. get_or w x 𝟘 ⊗ cond b 𝟙 𝟘) is ∙ product_one ring laws (get_or w x 𝟘))
      split (inr (is, other)) =
          ap (λ b. cond b (get_or w x 𝟘) 𝟘) (ne_eqb (x + 1) (suc k) (λ e. other (omega (arith, e))))
          ∙ sym (ap (λ b. get_or w x 𝟘 ⊗ cond b 𝟙 𝟘) is ∙ product_zero ring laws (get_or w x 𝟘))

  come-is : (w : List R) (y : ℕ) → y < length w → come w y ≡ get_or (shifted ring w) y 𝟘
  come-is w zero h =
      sum_below-same ring (length w - 1) (λ x. cond (eqb (x + 1) 0) (get_or w x 𝟘) 𝟘) (λ x. 𝟘) (λ x q. ap (λ b. cond b (get_or w x 𝟘) 𝟘) (ne_eqb (x + 1) 0 (λ e. absurd (omega (arith, e)))))
      ∙ sum_below-none ring laws (length w - 1)
  come-is w (suc k) h =
      let m = length w - 1 in
      let within : k < m = omega (arith, h) in
      sum_below-same ring m (λ x. cond (eqb (x + 1) (suc k)) (get_or w x 𝟘) 𝟘) (λ x. get_or w x 𝟘 ⊗ cond (eqb k x) 𝟙 𝟘) (λ x q. one-place w x k)
      ∙ sum_below-one ring laws m k (λ x. get_or w x 𝟘) 𝟙 within
      ∙ product_one ring laws (get_or w k 𝟘)
      ∙ sym (get_or-take m w k 𝟘 within)

  -- the entry of a row: that of the row before it, and the last one where it goes
  pushed-entry : (to : ℕ → ℕ) (w : List R) (s y : ℕ) → IsStep (length w) s to → y < length w → get_or (pushed ring to w) y 𝟘 ≡ get_or (shifted ring w) y 𝟘 ⊕ cond (eqb s y) (get_or w (length w - 1) 𝟘) 𝟘
  pushed-entry to w s y step h =
      let m = length w - 1 in
      let rows : length w ≡ m + 1 = omega (arith, h) in
      let term = λ (x : ℕ). cond (eqb (to x) y) (get_or w x 𝟘) 𝟘 in
      let before : sum_below ring m term ≡ come w y =
      sum_below-same ring m term (λ x. cond (eqb (x + 1) y) (get_or w x 𝟘) 𝟘) (λ x q. ap (λ k. cond (eqb k y) (get_or w x 𝟘) 𝟘) (step.more x q)) in
      let last : term m ≡ cond (eqb s y) (get_or w m 𝟘) 𝟘 = ap (λ k. cond (eqb k y) (get_or w m 𝟘) 𝟘) step.last in
      get_or-pushed ring laws to w y h
      ∙ ap (λ k. sum_below ring k term) rows
      ∙ sum_below-more ring laws m term
      ∙ ap (λ t. t ⊕ term m) (before ∙ come-is w y h)
      ∙ ap (λ t. get_or (shifted ring w) y 𝟘 ⊕ t) last

  set-entry : (s : List R) (m y : ℕ) (u : R) → m < length s → get_or s y 𝟘 ⊕ cond (eqb m y) u 𝟘 ≡ get_or (set s m (get_or s m 𝟘 ⊕ u)) y 𝟘
  set-entry s m y u h = split (eqb_tells m y)
    where
      split : ((eqb m y ≡ true) × (m ≡ y)) ⊎ ((eqb m y ≡ false) × (m ≢ y)) → get_or s y 𝟘 ⊕ cond (eqb m y) u 𝟘 ≡ get_or (set s m (get_or s m 𝟘 ⊕ u)) y 𝟘
      split (inl (is, same)) =
          ap (λ b. get_or s y 𝟘 ⊕ cond b u 𝟘) is
          ∙ ap (λ k. get_or s k 𝟘 ⊕ u) (sym same)
          ∙ sym (ap (λ k. get_or (set s m (get_or s m 𝟘 ⊕ u)) k 𝟘) (sym same) ∙ get_or-set_same s m (get_or s m 𝟘 ⊕ u) 𝟘 h)
      split (inr (is, other)) =
          ap (λ b. get_or s y 𝟘 ⊕ cond b u 𝟘) is
          ∙ sum_zero ring laws (get_or s y 𝟘)
          ∙ sym (get_or-set_other s m y (get_or s m 𝟘 ⊕ u) 𝟘 (λ e. other (sym e)))

  -- the pushed table: the table moved up by one place, with its last weight added where it goes
  pub pushed-is : (to : ℕ → ℕ) (w : List R) (s : ℕ) → IsStep (length w) s to → pushed ring to w ≡ set (shifted ring w) s (get_or (shifted ring w) s 𝟘 ⊕ get_or w (length w - 1) 𝟘)
  pushed-is to w s step =
      let m = length w - 1 in
      let moved = shifted ring w in
      let size : length moved ≡ length w = length-moved_up 𝟘 w (omega (arith, step.inside)) in
      let within : s < length moved = omega (arith, size, step.inside) in
      let whole = set moved s (get_or moved s 𝟘 ⊕ get_or w m 𝟘) in
      ext_get_or 𝟘 (pushed ring to w) whole (length-pushed ring laws to w ∙ sym (length-set moved s (get_or moved s 𝟘 ⊕ get_or w m 𝟘) ∙ size))
      (λ y q. pushed-entry to w s y step (omega (arith, q, length-pushed ring laws to w)) ∙ set-entry moved s y (get_or w m 𝟘) within)
