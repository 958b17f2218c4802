-- The value of the table of the powers of an element, from the last coordinate on.
use Rattle.std.proofs.Common.{◌≡◌, ℕ, suc, ◌+◌, ◌-◌, ◌^◌, ◌<◌, ◌≤◌, List, [], ◌∷◌, ◌++◌, map, length, get_or, drop, sym, ap, ◌∙◌, arith}
use Rattle.std.proofs.lemmas.List.{map-append, length-map}
use Rattle.mlu_ring.specs.Ring.{Ring, RingLaws, IsRingMap}
use Rattle.mlu_ring.specs.Tables.{value, power}
use Rattle.mlu_point.specs.Powers.{powers_below}
use Rattle.mlu_ring.proofs.Values.{value-none}
use Rattle.mlu_ring.proofs.RingMaps.{map-minus}
use Rattle.mlu_point.proofs.Suffixes.{suffix-none, suffix-more, suffix-whole, length-suffix}
use Rattle.mlu_point.proofs.PowerTables.{powers_below-twice, length-powers_below, powers_below-one, selects}
use Rattle.mlu_point.proofs.Parts.{value-scaled, value-halves, map-scaled}

module _ {B R : Type 0} (base : Ring B) (base_laws : RingLaws base) (ring : Ring R) (laws : RingLaws ring) (e : B → R) (keeps : IsRingMap base ring e) where
  infixl 50 ◌⊕◌
  infixl 50 ◌⊖◌
  infixl 60 ◌⊗◌
  open ring use {sum as ◌⊕◌, product as ◌⊗◌, minus as ◌⊖◌, zero as 𝟘, one as 𝟙}

  -- the value of the table of the first 2 ^ k powers of v
  abbrev pub select_value : B → ℕ → List R → R
  select_value v k q = value ring (map e (powers_below base v (2 ^ k))) q

  select-first : (v : B) (k : ℕ) (c : R) (q : List R) → length q ≡ k → select_value v (k + 1) (c ∷ q) ≡ (c ⊗ e (base.minus (power base v (2 ^ k)) base.one) ⊕ 𝟙) ⊗ select_value v k q
  select-first v k c q h =
      let m = 2 ^ k in
      let s = power base v m in
      let t = powers_below base v m in
      let next : k + 1 ≡ suc k = omega arith in
      let twice : 2 ^ suc k ≡ 2 ^ k + 2 ^ k = omega arith in
      let long : length (map e t) ≡ 2 ^ length q = length-map t e ∙ length-powers_below base base_laws v m ∙ ap (λ n. 2 ^ n) (sym h) in
      let less : e (base.minus s base.one) ≡ e s ⊖ 𝟙 = map-minus base base_laws ring laws e keeps s base.one ∙ ap (λ t. e s ⊖ t) keeps.one in
      ap (λ n. value ring (map e (powers_below base v n)) (c ∷ q)) (ap (λ n. 2 ^ n) next ∙ twice)
      ∙ ap (λ l. value ring (map e l) (c ∷ q)) (powers_below-twice base base_laws v m)
      ∙ ap (λ l. value ring l (c ∷ q)) (map-append e t (map (λ w. base.product s w) t) ∙ ap (λ l. map e t ++ l) (map-scaled base ring e keeps s t))
      ∙ value-halves ring laws (map e t) (map (λ w. e s ⊗ w) (map e t)) c q long
      ∙ ap (λ u. ((𝟙 ⊖ c) ⊗ value ring (map e t) q) ⊕ (c ⊗ u)) (value-scaled ring laws (e s) (map e t) q)
      ∙ selects ring laws c (e s) (value ring (map e t) q)
      ∙ ap (λ u. (c ⊗ u ⊕ 𝟙) ⊗ value ring (map e t) q) (sym less)

  pub select-start : (v : B) (point : List R) (r : R) → r ≡ 𝟙 → r ≡ select_value v 0 (drop (length point - 0) point)
  select-start v point r is =
      is
      ∙ sym (ap (λ l. select_value v 0 l) (suffix-none point) ∙ ap (λ l. value ring (map e l) []) (powers_below-one base base_laws v) ∙ value-none ring laws (e base.one ∷ []) ∙ keeps.one)

  pub select-step : (v : B) (point : List R) (k : ℕ) (c : R) (p : B) (r s : R) → k < length point → c ≡ get_or point (length point - 1 - k) c → p ≡ power base v (2 ^ k)
      → r ≡ select_value v k (drop (length point - k) point) → s ≡ (c ⊗ e (base.minus p base.one) ⊕ 𝟙) ⊗ r → s ≡ select_value v (k + 1) (drop (length point - (k + 1)) point)
  select-step v point k c p r s h at is before made =
      let within : k ≤ length point = omega arith in
      made
      ∙ ap (λ x. (c ⊗ e (base.minus x base.one) ⊕ 𝟙) ⊗ r) is
      ∙ ap (λ t. (c ⊗ e (base.minus (power base v (2 ^ k)) base.one) ⊕ 𝟙) ⊗ t) before
      ∙ sym (ap (λ l. select_value v (k + 1) l) (suffix-more point k c h at) ∙ select-first v k c (drop (length point - k) point) (length-suffix point k within))

  pub select-end : (v : B) (point : List R) (k : ℕ) (r : R) → k ≡ length point → r ≡ select_value v k (drop (length point - k) point) → r ≡ select_value v (length point) point
  select-end v point k r h is =
      let whole : length point ≤ k = omega (arith, h) in
      is ∙ ap (λ l. select_value v k l) (suffix-whole point k whole) ∙ ap (λ n. select_value v n point) h
