-- Folds of one variable by their entries.
use Rattle.std.proofs.Common.{◌≡◌, ℕ, suc, ◌+◌, ◌*◌, ◌/◌, ◌<◌, List, [], ◌∷◌, length, get_or, refl, sym, ap, ◌∙◌, arith}
use Rattle.std.proofs.lemmas.List.{ext_get_or}
use Rattle.std.proofs.lemmas.List.FromFn.{length-map-range_with_len}
use Rattle.mlu_ring.specs.Ring.{Ring, RingLaws}
use Rattle.mlu_ring.specs.Tables.{front, back}
use Rattle.mlu_ring.proofs.Rings.{sum_zero}
use Rattle.mlu_ring.proofs.SumsBelow.{sum_below-suc, sum_below-zero}
use Rattle.mlu_ring.proofs.Joined.{front-entry, back-entry}
use Rattle.mlu_ring.proofs.Univariate.{length-front}

module _ {R : Type 0} (ring : Ring R) where
  pub length-back : (w e : List R) → length (back ring w e) ≡ length e / length w
  unfolding back
  length-back w e = length-map-range_with_len _ 0 (length e / length w)

module _ {R : Type 0} (ring : Ring R) (laws : RingLaws ring) where
  infixl 50 ◌⊕◌
  infixl 60 ◌⊗◌
  open ring use {sum as ◌⊕◌, product as ◌⊗◌, zero as 𝟘}

  -- an entry of the lower half and the one that is half a table further on
  pub front_of_two-entry : (u c : R) (e : List R) (z : ℕ) → z < length e / 2 → get_or (front ring (u ∷ c ∷ []) e) z 𝟘 ≡ (u ⊗ get_or e z 𝟘) ⊕ (c ⊗ get_or e (length e / 2 + z) 𝟘)
  front_of_two-entry u c e z h =
      let s = length e / 2 in
      let low : 0 * s + z ≡ z = omega arith in
      let high : suc 0 * s + z ≡ s + z = omega arith in
      front-entry ring laws (u ∷ c ∷ []) e z s refl h
      ∙ sum_below-suc ring 1 _
      ∙ ap (λ t. (u ⊗ get_or e (0 * s + z) 𝟘) ⊕ t) (sum_below-suc ring 0 _ ∙ ap (λ t. (c ⊗ get_or e (suc 0 * s + z) 𝟘) ⊕ t) (sum_below-zero ring _))
      ∙ rw (low, high, sum_zero ring laws) refl

  pub front_by_index : (u c : R) (e ys : List R) → length ys ≡ length e / 2 → ((z : ℕ) → z < length e / 2 → get_or ys z 𝟘 ≡ (u ⊗ get_or e z 𝟘) ⊕ (c ⊗ get_or e (length e / 2 + z) 𝟘)) → ys ≡ front ring (u ∷ c ∷ []) e
  front_by_index u c e ys long at =
      ext_get_or 𝟘 ys (front ring (u ∷ c ∷ []) e) (long ∙ sym (length-front ring (u ∷ c ∷ []) e (length e / 2) refl))
      (λ z h. at z (omega arith) ∙ sym (front_of_two-entry u c e z (omega arith)))

  -- two entries side by side
  pub back_of_two-entry : (u c : R) (e : List R) (y : ℕ) → y < length e / 2 → get_or (back ring (u ∷ c ∷ []) e) y 𝟘 ≡ (u ⊗ get_or e (2 * y) 𝟘) ⊕ (c ⊗ get_or e (2 * y + 1) 𝟘)
  back_of_two-entry u c e y h =
      let first : y * 2 + 0 ≡ 2 * y = omega arith in
      let second : y * 2 + suc 0 ≡ 2 * y + 1 = omega arith in
      back-entry ring laws (u ∷ c ∷ []) e y (length e / 2) refl h
      ∙ sum_below-suc ring 1 _
      ∙ ap (λ t. (u ⊗ get_or e (y * 2 + 0) 𝟘) ⊕ t) (sum_below-suc ring 0 _ ∙ ap (λ t. (c ⊗ get_or e (y * 2 + suc 0) 𝟘) ⊕ t) (sum_below-zero ring _))
      ∙ rw (first, second, sum_zero ring laws) refl

  pub back_by_index : (u c : R) (e ys : List R) → length ys ≡ length e / 2 → ((y : ℕ) → y < length e / 2 → get_or ys y 𝟘 ≡ (u ⊗ get_or e (2 * y) 𝟘) ⊕ (c ⊗ get_or e (2 * y + 1) 𝟘)) → ys ≡ back ring (u ∷ c ∷ []) e
  back_by_index u c e ys long at =
      ext_get_or 𝟘 ys (back ring (u ∷ c ∷ []) e) (long ∙ sym (length-back ring (u ∷ c ∷ []) e))
      (λ y h. at y (omega arith) ∙ sym (back_of_two-entry u c e y (omega arith)))
