-- The weights at the point in a column, one row after the other.
use Rattle.std.proofs.Common.{◌≡◌, ℕ, suc, ◌-◌, ◌*◌, ◌/◌, ◌^◌, ◌<◌, List, ◌∷◌, ◌++◌, map, length, get_or, take, drop, set, refl, sym, ap, ◌∙◌, arith}
use Rattle.std.proofs.lemmas.List.{map-append, length-map, drop-map}
use Rattle.mlu_ring.specs.Ring.{Ring, RingLaws}
use Rattle.mlu_ring.specs.Tables.{weights}
use Rattle.mlu_ring.specs.Matrices.{AreRows, column}
use Rattle.mlu_ring.proofs.Doubling.{map_twice, weights-first, table-none}
use Rattle.mlu_point.proofs.Columns.{column-first, length-column}
use Rattle.mlu_point.proofs.Batches.{keeps, rows-less}
use Rattle.mlu_point.proofs.Halves.{first-row}

module _ {C R : Type 0} (ring : Ring R) (laws : RingLaws ring) (image : C → R) where
  infixl 50 ◌⊖◌
  infixl 60 ◌⊗◌
  open ring use {product as ◌⊗◌, minus as ◌⊖◌, zero as 𝟘, one as 𝟙}

  -- a table goes on from the two parts of its scale
  table-split : (s x rest share : R) (p : List R) → share ≡ s ⊗ x → rest ≡ s ⊖ share
      → map (λ w. rest ⊗ w) (weights ring p) ++ map (λ w. share ⊗ w) (weights ring p) ≡ map (λ w. s ⊗ w) (weights ring (x ∷ p))
  table-split s x rest share p is_share is_rest =
      let ws = weights ring p in
      sym
      (ap (map (λ w. s ⊗ w)) (weights-first ring laws x p)
      ∙ map-append (λ w. s ⊗ w) (map (λ w. (𝟙 ⊖ x) ⊗ w) ws) (map (λ w. x ⊗ w) ws)
      ∙ ap (λ l. l ++ map (λ w. s ⊗ w) (map (λ w. x ⊗ w) ws))
      (map_twice (λ w. s ⊗ w) (λ w. (𝟙 ⊖ x) ⊗ w) (λ w. rest ⊗ w) (λ w. keeps ring laws s x w ∙ ap (λ t. t ⊗ w) (ap (λ t. s ⊖ t) (sym is_share) ∙ sym is_rest)) ws)
      ∙ ap (λ l. map (λ w. rest ⊗ w) ws ++ l)
      (map_twice (λ w. s ⊗ w) (λ w. x ⊗ w) (λ w. share ⊗ w) (λ w. sym (laws.product_assoc s x w) ∙ ap (λ t. t ⊗ w) (sym is_share)) ws))

  pub filled-none : (vs : List C) (out : List R) (w i height : ℕ) (scale : R) → height ≡ length vs / w → height ≡ 0 → length out ≡ 2 ^ (length vs / w)
      → set out 0 scale ≡ map (λ t. scale ⊗ t) (weights ring (column ring (map image vs) w i))
  filled-none vs out w i height scale is none size =
      let p = column ring (map image vs) w i in
      let rows : length p ≡ length vs / w = length-column ring (map image vs) w i ∙ ap (λ n. n / w) (length-map vs image) in
      table-none ring laws scale out p (rows ∙ sym is ∙ none) (size ∙ ap (λ n. 2 ^ n) (sym rows))

  pub filled-first : (vs first others : List C) (w v i height : ℕ) (scale rest share : R) (c : C) (lower upper : List R) → v ≡ w → i < w → AreRows (length vs) w → height ≡ length vs / w → (height ≡ 0 → ⊥)
      → first ≡ take (1 * w) vs → others ≡ drop (1 * w) vs → c ≡ get_or first i c → share ≡ scale ⊗ image c → rest ≡ scale ⊖ share
      → lower ≡ map (λ t. rest ⊗ t) (weights ring (column ring (map image others) v i)) → upper ≡ map (λ t. share ⊗ t) (weights ring (column ring (map image others) v i))
      → lower ++ upper ≡ map (λ t. scale ⊗ t) (weights ring (column ring (map image vs) w i))
  filled-first vs first others w v i height scale rest share c lower upper width below whole is positive is_first is_others at is_share is_rest is_lower is_upper =
      let values = map image vs in
      let h = length vs / w - 1 in
      let some : 0 < w = omega (arith, below) in
      let rows : length vs / w ≡ suc h = omega (arith, is, positive) in
      let size : length vs ≡ suc h * w = whole ∙ ap (λ q. q * w) rows in
      let same : length values ≡ length vs = length-map vs image in
      let rows_values : length values / w ≡ suc h = ap (λ n. n / w) same ∙ rows in
      let whole_values : AreRows (length values) w = same ∙ whole ∙ ap (λ n. n / w * w) (sym same) in
      let fewer : length (drop w values) / w ≡ h = rows-less ring laws values w h some whole_values rows_values in
      let one : 1 * w ≡ w = omega arith in
      let left : map image others ≡ drop w values = ap (map image) (is_others ∙ ap (λ n. drop n vs) one) ∙ sym (drop-map image w vs) in
      let p = column ring (drop w values) w i in
      let head : get_or values i 𝟘 ≡ image c = sym (ap image at ∙ first-row ring laws image vs first w w h i c refl is_first size below) in
      let point : column ring values w i ≡ image c ∷ p = column-first ring values w i h rows_values fewer ∙ ap (λ t. t ∷ p) head in
      ap (λ l. l ++ upper) (is_lower ∙ ap (λ n. map (λ t. rest ⊗ t) (weights ring (column ring (map image others) n i))) width ∙ ap (λ l. map (λ t. rest ⊗ t) (weights ring (column ring l w i))) left)
      ∙ ap (λ l. map (λ t. rest ⊗ t) (weights ring p) ++ l) (is_upper ∙ ap (λ n. map (λ t. share ⊗ t) (weights ring (column ring (map image others) n i))) width ∙ ap (λ l. map (λ t. share ⊗ t) (weights ring (column ring l w i))) left)
      ∙ table-split scale (image c) rest share p is_share is_rest
      ∙ ap (λ q. map (λ t. scale ⊗ t) (weights ring q)) (sym point)
