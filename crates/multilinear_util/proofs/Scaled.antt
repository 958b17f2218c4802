-- Sums of products whose factors are scaled, and the value of a table as such a sum.
use Rattle.std.proofs.Common.{◌≡◌, ℕ, ◌+◌, ◌*◌, ◌/◌, ◌^◌, List, ◌++◌, map, length, get_or, refl, sym, ap, ◌∙◌}
use Rattle.std.proofs.lemmas.List.{length-map}
use Rattle.std.proofs.Math.ListN.{get_or-map}
use Rattle.std.specs.List.{range_with_len}
use Rattle.mlu_ring.specs.Ring.{Ring, RingLaws}
use Rattle.mlu_ring.specs.Sums.{sum_below}
use Rattle.mlu_ring.specs.Tables.{pair, front, back, value, weight, weights}
use Rattle.mlu_ring.proofs.Rings.{product_zero}
use Rattle.mlu_ring.proofs.SumsBelow.{map_from, sum_below-same, sum_below-product}
use Rattle.mlu_ring.proofs.Doubling.{map_twice}
use Rattle.mlu_ring.proofs.Joined.{length-weights, get_or-weights, value-joined_prefix, value-joined_suffix}
use Rattle.mlu_point.proofs.Parts.{value-scaled}

module _ {R : Type 0} (ring : Ring R) (laws : RingLaws ring) where
  infixl 60 ◌⊗◌
  open ring use {product as ◌⊗◌, zero as 𝟘}

  scaled-entry : (c : R) (w : List R) (y : ℕ) → get_or (map (ring.product c) w) y 𝟘 ≡ c ⊗ get_or w y 𝟘
  scaled-entry c w y = ap (get_or (map (ring.product c) w) y) (sym (product_zero ring laws c)) ∙ get_or-map (ring.product c) w y 𝟘

  -- the weights are scaled
  scaled-sum : (c : R) (w : List R) (n : ℕ) (e : ℕ → R) → sum_below ring n (λ y. get_or (map (ring.product c) w) y 𝟘 ⊗ e y) ≡ c ⊗ sum_below ring n (λ y. get_or w y 𝟘 ⊗ e y)
  scaled-sum c w n e =
      sum_below-same ring n (λ y. get_or (map (ring.product c) w) y 𝟘 ⊗ e y) (λ y. c ⊗ (get_or w y 𝟘 ⊗ e y))
      (λ y h. ap (λ t. t ⊗ e y) (scaled-entry c w y) ∙ laws.product_assoc c (get_or w y 𝟘) (e y))
      ∙ sum_below-product ring laws n c (λ y. get_or w y 𝟘 ⊗ e y)

  pub front-scaled : (c : R) (w e : List R) → front ring (map (ring.product c) w) e ≡ map (ring.product c) (front ring w e)
  unfolding front
  front-scaled c w e =
      let s = length e / length w in
      let entry = λ (n s z : ℕ) (v : List R). sum_below ring n (λ y. get_or v y 𝟘 ⊗ get_or e (y * s + z) 𝟘) in
      ap (λ n. map (λ z. entry n (length e / n) z (map (ring.product c) w)) (range_with_len 0 (length e / n))) (length-map w (ring.product c))
      ∙ map_from 0 0 s (λ z. entry (length w) s z (map (ring.product c) w)) (λ z. c ⊗ entry (length w) s z w)
      (λ k h. scaled-sum c w (length w) (λ y. get_or e (y * s + (0 + k)) 𝟘))
      ∙ sym (map_twice (ring.product c) (λ z. entry (length w) s z w) (λ z. c ⊗ entry (length w) s z w) (λ z. refl) (range_with_len 0 s))

  pub back-scaled : (c : R) (w e : List R) → back ring (map (ring.product c) w) e ≡ map (ring.product c) (back ring w e)
  unfolding back
  back-scaled c w e =
      let m = length e / length w in
      let entry = λ (t y : ℕ) (v : List R). sum_below ring t (λ z. get_or v z 𝟘 ⊗ get_or e (y * t + z) 𝟘) in
      ap (λ t. map (λ y. entry t y (map (ring.product c) w)) (range_with_len 0 (length e / t))) (length-map w (ring.product c))
      ∙ map_from 0 0 m (λ y. entry (length w) y (map (ring.product c) w)) (λ y. c ⊗ entry (length w) y w)
      (λ k h. scaled-sum c w (length w) (λ z. get_or e ((0 + k) * length w + z) 𝟘))
      ∙ sym (map_twice (ring.product c) (λ y. entry (length w) y w) (λ y. c ⊗ entry (length w) y w) (λ y. refl) (range_with_len 0 m))

  -- the value is the sum of the entries, each times its weight
  pub pair-weights : (e p : List R) → pair ring (weights ring p) e ≡ value ring e p
  unfolding pair value
  pair-weights e p =
      ap (λ n. sum_below ring n (λ x. get_or (weights ring p) x 𝟘 ⊗ get_or e x 𝟘)) (length-weights ring p)
      ∙ sum_below-same ring (2 ^ length p) (λ x. get_or (weights ring p) x 𝟘 ⊗ get_or e x 𝟘) (λ x. weight ring p x ⊗ get_or e x 𝟘)
      (λ x h. ap (λ t. t ⊗ get_or e x 𝟘) (get_or-weights ring p x h))

  -- compressing the first variables at a scale and evaluating at the others is evaluating at the joined point
  pub value-compressed_prefix : (c : R) (e a b folded : List R) → folded ≡ map (ring.product c) (front ring (weights ring a) e) → length e ≡ 2 ^ (length a + length b) → value ring folded b ≡ c ⊗ value ring e (a ++ b)
  value-compressed_prefix c e a b folded is size =
      ap (λ t. value ring t b) is ∙ value-scaled ring laws c (front ring (weights ring a) e) b ∙ ap (λ t. c ⊗ t) (value-joined_prefix ring laws e a b size)

  -- and so it is with the last variables
  pub value-compressed_suffix : (c : R) (e a b folded : List R) → folded ≡ map (ring.product c) (back ring (weights ring b) e) → length e ≡ 2 ^ (length a + length b) → value ring folded a ≡ c ⊗ value ring e (a ++ b)
  value-compressed_suffix c e a b folded is size =
      ap (λ t. value ring t a) is ∙ value-scaled ring laws c (back ring (weights ring b) e) a ∙ ap (λ t. c ⊗ t) (value-joined_suffix ring laws e a b size)
