-- Steps to the next row: the last entry of a split table, and tables moved by one place.
use Rattle.std.proofs.Common.{◌≡◌, ℕ, ◌+◌, ◌-◌, ◌*◌, ◌<◌, List, [], ◌∷◌, ◌++◌, length, map, get_or, take, set, sym, ap, ◌∙◌, arith}
use Rattle.std.specs.List.{slice_rotate_right}
use Rattle.std.proofs.lemmas.List.{get_or-map, get_or_past, get_or_default, drop_more, drop_all}
use Rattle.mlu_ring.specs.Ring.{Ring, RingLaws}
use Rattle.mlu_ring.specs.Tables.{pair, weights}
use Rattle.mlu_ring.specs.Successor.{shifted}
use Rattle.mlu_ring.proofs.Rings.{product_zero, map-one}
use Rattle.mlu_ring.proofs.Shifted.{length-moved_up, pushed-is, pair-pushed}
use Rattle.mlu_eq.specs.Split.{contents}
use Rattle.mlu_eq.proofs.Contents.{length-contents, get_or-contents_row}
use Rattle.mlu_eq.proofs.Lengths.{last_place}
use Rattle.mlu_point.specs.declared.point.rule.Successor.{Successor}
use Rattle.mlu_point.specs.Rules.{successor_by, next_by, after_last}
use Rattle.mlu_point.proofs.Rules.{rule-step}

no-rows : (n : ℕ) → n * 0 ≡ 0
no-rows n = omega arith

module _ {R : Type 0} (ring : Ring R) (laws : RingLaws ring) where
  infixl 50 ◌⊕◌
  infixl 60 ◌⊗◌
  open ring use {sum as ◌⊕◌, product as ◌⊗◌, zero as 𝟘, one as 𝟙}

  -- the last entry of the whole table is the product of the last ones of its halves
  pub last-contents : (eq0 w : List R) → 0 < length eq0 → get_or eq0 (length eq0 - 1) 𝟘 ⊗ get_or w (length w - 1) 𝟘 ≡ get_or (contents ring eq0 w) (length (contents ring eq0 w) - 1) 𝟘
  last-contents eq0 [] some =
      product_zero ring laws (get_or eq0 (length eq0 - 1) 𝟘)
      ∙ sym (get_or_past (contents ring eq0 []) (length (contents ring eq0 []) - 1) 𝟘 (omega (arith, length-contents ring eq0 [], no-rows (length eq0))))
  last-contents eq0 (x ∷ w) some =
      let long = length-contents ring eq0 (x ∷ w) in
      sym (get_or-contents_row ring eq0 (x ∷ w) (length eq0 - 1) (length (x ∷ w) - 1) (omega (arith, some)) (omega arith))
      ∙ ap (λ k. get_or (contents ring eq0 (x ∷ w)) k 𝟘) (last_place (length eq0) (length (x ∷ w)) some (omega arith) ∙ ap (λ k. k - 1) (sym long))

  -- the sum at the next values, from that of the moved table and the product of the last entry
  pub sum-next : {F : Type 0} (rule : Successor) (embed : F → R) (c : List R) (values : List F) (steps last product result : R) (value : F) → 0 < length c → length values ≡ length c
      → steps ≡ pair ring (shifted ring c) (map embed values) → last ≡ get_or c (length c - 1) 𝟘 → value ≡ get_or values (after_last rule (length values)) value → product ≡ last ⊗ embed value → result ≡ steps ⊕ product
      → result ≡ pair ring (next_by rule ring c) (map embed values)
  sum-next rule embed c values steps last product result value some size at_steps at_last at_value at_product at_result =
      let step = rule-step rule (length c) some in
      let place : after_last rule (length values) ≡ after_last rule (length c) = ap (after_last rule) size in
      let within : after_last rule (length c) < length values = omega (arith, size, step.inside) in
      let image : embed value ≡ get_or (map embed values) (after_last rule (length c)) 𝟘 =
      ap embed (at_value ∙ ap (λ k. get_or values k value) place) ∙ sym (get_or-map embed values (after_last rule (length c)) value 𝟘 within) in
      at_result
      ∙ ap (λ t. t ⊕ product) at_steps
      ∙ ap (λ t. pair ring (shifted ring c) (map embed values) ⊕ t) (at_product ∙ ap (λ t. t ⊗ embed value) at_last ∙ ap (λ t. get_or c (length c - 1) 𝟘 ⊗ t) image)
      ∙ sym (pair-pushed ring laws (successor_by rule (length c)) c (map embed values) (after_last rule (length c)) step)

  -- a table at scale one, moved to the next rows
  pub pair-next_unit : (rule : Successor) (one : R) (p c e : List R) → one ≡ 𝟙 → c ≡ map (ring.product one) (weights ring p) → pair ring (next_by rule ring c) e ≡ pair ring (next_by rule ring (weights ring p)) e
  pair-next_unit rule one p c e is_one is = ap (λ v. pair ring (next_by rule ring v) e) (is ∙ map-one ring laws one (weights ring p) is_one)

  turned : (w : List R) → 0 < length w → slice_rotate_right w 1 ≡ get_or w (length w - 1) 𝟘 ∷ take (length w - 1) w
  turned w some =
      let m = length w - 1 in
      ap (λ l. l ++ take m w) (drop_more w m 𝟘 (omega (arith, some)) ∙ ap (λ l. get_or w m 𝟘 ∷ l) (drop_all (m + 1) w (omega arith)))

  -- the weights turned by one place, with zero for the first, and the first added where the last one goes
  pub next-turned : (rule : Successor) (w turn zeroed : List R) (last old sum : R) (m : ℕ) → 0 < length w → turn ≡ slice_rotate_right w 1 → last ≡ get_or turn 0 last → zeroed ≡ set turn 0 𝟘
      → m ≡ after_last rule (length zeroed) → old ≡ get_or zeroed m old → sum ≡ old ⊕ last → set zeroed m sum ≡ next_by rule ring w
  next-turned rule w turn zeroed last old sum m some at_turn at_last at_zeroed at_m at_old made =
      let end = after_last rule (length w) in
      let moved = shifted ring w in
      let step = rule-step rule (length w) some in
      let is = at_turn ∙ turned w some in
      let first : last ≡ get_or w (length w - 1) 𝟘 = at_last ∙ ap (λ l. get_or l 0 last) is in
      let zero_first : zeroed ≡ shifted ring w = at_zeroed ∙ ap (λ l. set l 0 𝟘) is in
      let long = length-moved_up 𝟘 w some in
      let place : m ≡ after_last rule (length w) = at_m ∙ ap (λ l. after_last rule (length l)) zero_first ∙ ap (after_last rule) long in
      let within : after_last rule (length w) < length (shifted ring w) = omega (arith, long, step.inside) in
      let before : old ≡ get_or (shifted ring w) (after_last rule (length w)) 𝟘 =
      at_old ∙ ap (λ l. get_or l m old) zero_first ∙ ap (λ j. get_or moved j old) place ∙ get_or_default moved end old 𝟘 within in
      ap (λ l. set l m sum) zero_first
      ∙ ap (λ j. set moved j sum) place
      ∙ ap (set moved end) (made ∙ ap (λ t. t ⊕ last) before ∙ ap (λ t. get_or moved end 𝟘 ⊕ t) first)
      ∙ sym (pushed-is ring laws (successor_by rule (length w)) w end step)
