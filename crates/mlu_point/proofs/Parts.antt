-- Values of scaled tables, and of tables in two parts.
use Rattle.std.proofs.Common.{◌≡◌, ℕ, zero, suc, ◌^◌, List, [], ◌∷◌, ◌++◌, map, length, get_or, take, drop, refl, sym, ap, ◌∙◌}
use Rattle.std.proofs.Math.Seq.{take-append_seam, drop-append_seam}
use Rattle.std.proofs.lemmas.List.{length-map}
use Rattle.mlu_ring.specs.Ring.{Ring, RingLaws, IsRingMap}
use Rattle.mlu_ring.specs.Tables.{weight, value}
use Rattle.mlu_ring.proofs.Rings.{sum_product, product_left_comm, product_zero}
use Rattle.mlu_ring.proofs.SumsBelow.{sum_below-same, sum_below-product}
use Rattle.mlu_ring.proofs.Values.{value-first}
use Rattle.mlu_ring.proofs.Doubling.{map_twice}

module _ {R : Type 0} (ring : Ring R) (laws : RingLaws ring) where
  infixl 50 ◌⊕◌
  infixl 50 ◌⊖◌
  infixl 60 ◌⊗◌
  open ring use {sum as ◌⊕◌, product as ◌⊗◌, minus as ◌⊖◌, zero as 𝟘, one as 𝟙}

  entry-scaled : (s : R) (t : List R) (x : ℕ) → get_or (map (λ w. s ⊗ w) t) x 𝟘 ≡ s ⊗ get_or t x 𝟘
  entry-scaled s [] x = sym (product_zero ring laws s)
  entry-scaled s (y ∷ t) zero = refl
  entry-scaled s (y ∷ t) (suc x) = entry-scaled s t x

  pub value-scaled : (s : R) (t p : List R) → value ring (map (λ w. s ⊗ w) t) p ≡ s ⊗ value ring t p
  unfolding value
  value-scaled s t p =
      sum_below-same ring (2 ^ length p) (λ x. weight ring p x ⊗ get_or (map (λ w. s ⊗ w) t) x 𝟘) (λ x. s ⊗ (weight ring p x ⊗ get_or t x 𝟘))
      (λ x h. ap (λ u. weight ring p x ⊗ u) (entry-scaled s t x) ∙ product_left_comm ring laws (weight ring p x) s (get_or t x 𝟘))
      ∙ sum_below-product ring laws (2 ^ length p) s (λ x. weight ring p x ⊗ get_or t x 𝟘)

  pub value-halves : (low high : List R) (d : R) (q : List R) → length low ≡ 2 ^ length q → value ring (low ++ high) (d ∷ q) ≡ ((𝟙 ⊖ d) ⊗ value ring low q) ⊕ (d ⊗ value ring high q)
  value-halves low high d q h =
      value-first ring laws (low ++ high) d q
      ∙ ap (λ t. ((𝟙 ⊖ d) ⊗ value ring t q) ⊕ (d ⊗ value ring (drop (2 ^ length q) (low ++ high)) q)) (ap (λ n. take n (low ++ high)) (sym h) ∙ take-append_seam low high)
      ∙ ap (λ t. ((𝟙 ⊖ d) ⊗ value ring low q) ⊕ (d ⊗ value ring t q)) (ap (λ n. drop n (low ++ high)) (sym h) ∙ drop-append_seam low high)

  shares : (u a d b v : R) → (u ⊗ (a ⊗ v)) ⊕ (d ⊗ (b ⊗ v)) ≡ ((u ⊗ a) ⊕ (d ⊗ b)) ⊗ v
  shares u a d b v = simp (sum_product ring laws, laws.product_assoc)

  -- a table of two shares of one table
  pub value-shares : (a b : R) (t : List R) (d : R) (q : List R) → length t ≡ 2 ^ length q → value ring (map (λ w. a ⊗ w) t ++ map (λ w. b ⊗ w) t) (d ∷ q) ≡ (((𝟙 ⊖ d) ⊗ a) ⊕ (d ⊗ b)) ⊗ value ring t q
  value-shares a b t d q h =
      value-halves (map (λ w. a ⊗ w) t) (map (λ w. b ⊗ w) t) d q (length-map t (λ w. a ⊗ w) ∙ h)
      ∙ ap (λ u. ((𝟙 ⊖ d) ⊗ u) ⊕ (d ⊗ value ring (map (λ w. b ⊗ w) t) q)) (value-scaled a t q)
      ∙ ap (λ u. ((𝟙 ⊖ d) ⊗ (a ⊗ value ring t q)) ⊕ (d ⊗ u)) (value-scaled b t q)
      ∙ shares (𝟙 ⊖ d) a d b (value ring t q)

module _ {B R : Type 0} (base : Ring B) (ring : Ring R) (e : B → R) (keeps : IsRingMap base ring e) where
  infixl 60 ◌⊗◌
  open ring use {product as ◌⊗◌}

  pub map-scaled : (s : B) (ws : List B) → map e (map (λ w. base.product s w) ws) ≡ map (λ w. e s ⊗ w) (map e ws)
  map-scaled s ws =
      map_twice e (λ w. base.product s w) (λ w. e s ⊗ e w) (λ w. keeps.product s w) ws
      ∙ sym (map_twice (λ w. e s ⊗ w) e (λ w. e s ⊗ e w) (λ w. refl) ws)
