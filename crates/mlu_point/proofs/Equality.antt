-- The value of the equality table of one point at another, one coordinate at a time.
use Rattle.std.proofs.Common.{◌≡◌, ℕ, ◌+◌, ◌-◌, ◌^◌, ◌<◌, ◌≤◌, List, [], ◌∷◌, ◌++◌, map, length, get_or, drop, sym, ap, ◌∙◌, arith, length-drop}
use Rattle.std.proofs.lemmas.List.{map-append, length-map, drop_more, drop_all}
use Rattle.mlu_ring.specs.Ring.{Ring, RingLaws, IsRingMap}
use Rattle.mlu_ring.specs.Tables.{weights, value}
use Rattle.mlu_point.specs.Factors.{eq_factor}
use Rattle.mlu_point.proofs.Complements.{factor-short}
use Rattle.mlu_point.proofs.Parts.{value-shares, map-scaled}
use Rattle.mlu_ring.proofs.RingMaps.{map-minus}
use Rattle.mlu_ring.proofs.Values.{value-none}
use Rattle.mlu_ring.proofs.Joined.{length-weights}
use Rattle.mlu_ring.proofs.Doubling.{weights-first, weights-none}

module _ {B R : Type 0} (base : Ring B) (base_laws : RingLaws base) (ring : Ring R) (laws : RingLaws ring) (e : B → R) (keeps : IsRingMap base ring e) where
  infixl 50 ◌⊕◌
  infixl 50 ◌⊖◌
  infixl 60 ◌⊗◌
  open ring use {sum as ◌⊕◌, product as ◌⊗◌, minus as ◌⊖◌, negation as neg, zero as 𝟘, one as 𝟙}

  pub factor-written : (c : B) (d : R) → ((d ⊕ d) ⊗ e c ⊕ e (base.minus base.one c)) ⊖ d ≡ eq_factor base ring e c d
  factor-written c d =
      let rest : e (base.minus base.one c) ≡ 𝟙 ⊖ e c = map-minus base base_laws ring laws e keeps base.one c ∙ ap (λ t. t ⊖ e c) keeps.one in
      ap (λ t. ((d ⊕ d) ⊗ e c ⊕ t) ⊖ d) rest ∙ factor-short ring laws (e c) d ∙ ap (λ t. ((𝟙 ⊖ d) ⊗ t) ⊕ (d ⊗ e c)) (sym rest)

  pub factor-steps : (p one complement : B) (q doubled scaled added r : R) → doubled ≡ q ⊕ q → scaled ≡ doubled ⊗ e p → one ≡ base.one → complement ≡ base.minus one p → added ≡ scaled ⊕ e complement → r ≡ added ⊖ q → r ≡ eq_factor base ring e p q
  factor-steps p one complement q doubled scaled added r twice times unit rest sum made =
      made
      ∙ ap (λ t. t ⊖ q) (sum ∙ ap (λ t. t ⊕ e complement) (times ∙ ap (λ t. t ⊗ e p) twice) ∙ ap (λ t. ((q ⊕ q) ⊗ e p) ⊕ e t) (rest ∙ ap (λ t. base.minus t p) unit))
      ∙ factor-written p q

  -- the value of the table of p at q
  abbrev pub eq_value : List B → List R → R
  eq_value p q = value ring (map e (weights base p)) q

  eq-first : (c : B) (p : List B) (d : R) (q : List R) → length p ≡ length q → eq_value (c ∷ p) (d ∷ q) ≡ eq_factor base ring e c d ⊗ eq_value p q
  eq-first c p d q h =
      let a = base.minus base.one c in
      let ws = weights base p in
      let long : length (map e ws) ≡ 2 ^ length q = length-map ws e ∙ length-weights base p ∙ ap (λ n. 2 ^ n) h in
      ap (λ l. value ring (map e l) (d ∷ q)) (weights-first base base_laws c p)
      ∙ ap (λ l. value ring l (d ∷ q)) (map-append e (map (λ w. base.product a w) ws) (map (λ w. base.product c w) ws))
      ∙ ap (λ l. value ring (l ++ map e (map (λ w. base.product c w) ws)) (d ∷ q)) (map-scaled base ring e keeps a ws)
      ∙ ap (λ l. value ring (map (λ w. e a ⊗ w) (map e ws) ++ l) (d ∷ q)) (map-scaled base ring e keeps c ws)
      ∙ value-shares ring laws (e a) (e c) (map e ws) d q long

  eq-none : eq_value [] [] ≡ 𝟙
  eq-none = ap (λ l. value ring (map e l) []) (weights-none base base_laws) ∙ value-none ring laws (e base.one ∷ []) ∙ keeps.one

  -- the loop has multiplied the factors of the coordinates below i: what is left is the value at the others
  pub eq-start : (p : List B) (q : List R) (r : R) → r ≡ 𝟙 → r ⊗ eq_value (drop 0 p) (drop 0 q) ≡ eq_value p q
  eq-start p q r is = ap (λ t. t ⊗ eq_value p q) is ∙ laws.one_product (eq_value p q)

  pub eq-step : (p : List B) (q : List R) (i : ℕ) (c : B) (d f r s : R) → i < length p → length p ≡ length q → c ≡ get_or p i c → d ≡ get_or q i d → f ≡ eq_factor base ring e c d → s ≡ r ⊗ f
      → s ⊗ eq_value (drop (i + 1) p) (drop (i + 1) q) ≡ r ⊗ eq_value (drop i p) (drop i q)
  eq-step p q i c d f r s h same at_p at_q is made =
      let within : i < length q = omega (arith, h, same) in
      let rest_p = drop (i + 1) p in
      let rest_q = drop (i + 1) q in
      let from_p : drop i p ≡ c ∷ drop (i + 1) p = drop_more p i c h ∙ ap (λ x. x ∷ drop (i + 1) p) (sym at_p) in
      let from_q : drop i q ≡ d ∷ drop (i + 1) q = drop_more q i d within ∙ ap (λ x. x ∷ drop (i + 1) q) (sym at_q) in
      let long : length (drop (i + 1) p) ≡ length (drop (i + 1) q) = length-drop (i + 1) p ∙ ap (λ n. n - (i + 1)) same ∙ sym (length-drop (i + 1) q) in
      ap (λ t. t ⊗ eq_value rest_p rest_q) (made ∙ ap (λ t. r ⊗ t) is)
      ∙ laws.product_assoc r (eq_factor base ring e c d) (eq_value rest_p rest_q)
      ∙ ap (λ t. r ⊗ t)
      (sym (ap (λ l. eq_value l (drop i q)) from_p ∙ ap (λ l. eq_value (c ∷ drop (i + 1) p) l) from_q ∙ eq-first c rest_p d rest_q long))

  pub eq-end : (p : List B) (q : List R) (i : ℕ) (r : R) → length p ≤ i → length p ≡ length q → r ⊗ eq_value (drop i p) (drop i q) ≡ eq_value p q → r ≡ eq_value p q
  eq-end p q i r h same left =
      let within : length q ≤ i = omega (arith, h, same) in
      let nothing : eq_value (drop i p) (drop i q) ≡ 𝟙 = ap (λ l. eq_value l (drop i q)) (drop_all i p h) ∙ ap (λ l. eq_value [] l) (drop_all i q within) ∙ eq-none in
      sym (laws.product_comm r 𝟙 ∙ laws.one_product r) ∙ ap (λ t. r ⊗ t) (sym nothing) ∙ left
