-- Sums of products, one place or four places more.
use Rattle.std.proofs.Common.{◌≡◌, ℕ, ◌+◌, ◌<◌, List, [], ◌∷◌, length, take, drop, get_or, sym, ap, ◌∙◌, arith}
use Rattle.std.proofs.lemmas.List.{take_more, get_or-drop, get_or_default, length-take-le}
use Rattle.mlu_ring.specs.Ring.{Ring, RingLaws}
use Rattle.mlu_ring.specs.Tables.{pair}
use Rattle.mlu_ring.proofs.Pairs.{pair-of_four}
use Rattle.mlu_ring.proofs.Totals.{pair-append, sum_below-one}

module _ {R : Type 0} (ring : Ring R) (laws : RingLaws ring) where
  infixl 50 ◌⊕◌
  infixl 60 ◌⊗◌
  open ring use {sum as ◌⊕◌, product as ◌⊗◌, zero as 𝟘}

  pair-one : (x : R) (e : List R) → pair ring (x ∷ []) e ≡ x ⊗ get_or e 0 𝟘
  unfolding pair
  pair-one x e = sum_below-one ring laws (λ k. get_or (x ∷ []) k 𝟘 ⊗ get_or e k 𝟘)

  -- one more place, of which the entries were read
  pub pair-take_more : (w e : List R) (i : ℕ) (x y : R) → i < length w → i < length e → x ≡ get_or w i x → y ≡ get_or e i y
      → pair ring (take (i + 1) w) e ≡ pair ring (take i w) e ⊕ (x ⊗ y)
  pair-take_more w e i x y h within at_x at_y =
      let start : i + 0 ≡ i = omega arith in
      ap (λ v. pair ring v e) (take_more w i x h)
      ∙ pair-append ring laws (take i w) (get_or w i x ∷ []) e
      ∙ ap (λ t. pair ring (take i w) e ⊕ t)
      (pair-one (get_or w i x) (drop (length (take i w)) e)
      ∙ ap (λ k. get_or w i x ⊗ get_or (drop k e) 0 𝟘) (length-take-le i w (omega arith))
      ∙ ap (λ t. get_or w i x ⊗ t) (get_or-drop i e 0 𝟘 ∙ ap (λ k. get_or e k 𝟘) start ∙ get_or_default e i 𝟘 y within ∙ sym at_y)
      ∙ ap (λ t. t ⊗ y) (sym at_x))

  four_in_turn : (t p q u v : R) → t ⊕ p ⊕ q ⊕ u ⊕ v ≡ t ⊕ ((p ⊕ q) ⊕ (u ⊕ v))
  four_in_turn t p q u v = simp (laws.sum_assoc)

  -- four more places, of which the entries were read
  pub pair-take_four_more : (w e : List R) (i j : ℕ) (a b c d k l m n : R) → j ≡ i + 4 → i + 3 < length w → length w ≡ length e
      → a ≡ get_or w i a → b ≡ get_or w (i + 1) b → c ≡ get_or w (i + 2) c → d ≡ get_or w (i + 3) d
      → k ≡ get_or e i k → l ≡ get_or e (i + 1) l → m ≡ get_or e (i + 2) m → n ≡ get_or e (i + 3) n
      → pair ring (take j w) e ≡ pair ring (take i w) e ⊕ pair ring (a ∷ b ∷ c ∷ d ∷ []) (k ∷ l ∷ m ∷ n ∷ [])
  pair-take_four_more w e i j a b c d k l m n at h long pa pb pc pd pk pl pm pn =
      let second : i + 2 ≡ i + 1 + 1 = omega arith in
      let third : i + 3 ≡ i + 2 + 1 = omega arith in
      let end : j ≡ i + 3 + 1 = omega arith in
      ap (λ z. pair ring (take z w) e) end
      ∙ pair-take_more w e (i + 3) d n (omega arith) (omega arith) pd pn
      ∙ ap (λ t. t ⊕ (d ⊗ n)) (ap (λ z. pair ring (take z w) e) third ∙ pair-take_more w e (i + 2) c m (omega arith) (omega arith) pc pm
      ∙ ap (λ t. t ⊕ (c ⊗ m)) (ap (λ z. pair ring (take z w) e) second ∙ pair-take_more w e (i + 1) b l (omega arith) (omega arith) pb pl
      ∙ ap (λ t. t ⊕ (b ⊗ l)) (pair-take_more w e i a k (omega arith) (omega arith) pa pk)))
      ∙ four_in_turn (pair ring (take i w) e) (a ⊗ k) (b ⊗ l) (c ⊗ m) (d ⊗ n)
      ∙ ap (λ t. pair ring (take i w) e ⊕ t) (sym (pair-of_four ring laws a b c d k l m n))

  -- the sum s of the places before i, and the product m at i
  pub pair-one_more : (w e : List R) (i : ℕ) (x y s m n : R) → length w ≡ length e → i < length w → x ≡ get_or w i x → y ≡ get_or e i y
      → s ≡ pair ring (take i w) e → m ≡ x ⊗ y → n ≡ s ⊕ m → n ≡ pair ring (take (i + 1) w) e
  pair-one_more w e i x y s m n long within at_x at_y is_s is_m is_n =
      is_n ∙ (λ j. is_s j ⊕ is_m j) ∙ sym (pair-take_more w e i x y within (omega (arith, long, within)) at_x at_y)
