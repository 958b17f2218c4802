-- The table of a joined point, in both orders: the table of the low coordinates, scaled by each weight of the high ones.
use Rattle.std.proofs.Common.{◌≡◌, ◌^◌, List, [], ◌∷◌, ◌++◌, map, length, refl, sym, ap, ◌∙◌, arith}
use Rattle.std.proofs.lemmas.List.{map-append, append-nil, append_assoc, length-map}
use Rattle.std.proofs.lemmas.Grind.{flat_map-append}
use Rattle.mlu_ring.specs.Ring.{Ring, RingLaws}
use Rattle.mlu_ring.specs.Tables.{weights, lsb}
use Rattle.mlu_ring.proofs.Doubling.{map_twice}
use Rattle.mlu_ring.proofs.Joined.{length-weights}
use Rattle.mlu_ring.proofs.Reversed.{length-lsb}
use Rattle.mlu_point.specs.declared.point.order.BitOrder.{BitOrder}
use Rattle.mlu_point.specs.declared.point.order.BitOrder.TheVariants.{Msb, Lsb}
use Rattle.mlu_point.specs.Orders.{weights_by, with_top, joined_by, scaled_by_each}
use Rattle.mlu_ring.proofs.Rings.{map-one}
use Rattle.mlu_point.proofs.Tables.{weights_by-shares, weights_by-none}

-- no high coordinates
pub joined-none : {R : Type 0} (order : BitOrder) (high low : List R) → length high ≡ 0 → joined_by order high low ≡ low
joined-none Msb [] low none = refl
joined-none Lsb [] low none = append-nil low
joined-none order (c ∷ high) low none = absurd (omega arith)

module _ {R : Type 0} (ring : Ring R) (laws : RingLaws ring) where
  infixl 50 ◌⊖◌
  infixl 60 ◌⊗◌
  open ring use {product as ◌⊗◌, minus as ◌⊖◌, one as 𝟙}

  -- scaled once more
  pub scaled-twice : (s : R) (table scales : List R) → scaled_by_each ring table (map (λ w. s ⊗ w) scales) ≡ map (λ w. s ⊗ w) (scaled_by_each ring table scales)
  scaled-twice s table [] = refl
  scaled-twice s table (t ∷ scales) =
      ap (λ l. map (λ w. (s ⊗ t) ⊗ w) table ++ l) (scaled-twice s table scales)
      ∙ ap (λ l. l ++ map (λ w. s ⊗ w) (scaled_by_each ring table scales)) (sym (map_twice (λ w. s ⊗ w) (λ w. t ⊗ w) (λ w. (s ⊗ t) ⊗ w) (λ w. sym (laws.product_assoc s t w)) table))
      ∙ sym (map-append (λ w. s ⊗ w) (map (λ w. t ⊗ w) table) (scaled_by_each ring table scales))

  pub scaled-one : (table : List R) → scaled_by_each ring table (𝟙 ∷ []) ≡ table
  scaled-one table = append-nil (map (λ w. 𝟙 ⊗ w) table) ∙ map-one ring laws 𝟙 table refl

  -- one coordinate more
  joined-more : (order : BitOrder) (c : R) (high p whole table : List R) → whole ≡ with_top order c p → weights_by order ring p ≡ scaled_by_each ring table (weights_by order ring high)
      → weights_by order ring whole ≡ scaled_by_each ring table (weights_by order ring (with_top order c high))
  joined-more order c high p whole table is before =
      let top = weights_by order ring high in
      let share = λ (s : R) (ws : List R). map (λ w. s ⊗ w) ws in
      ap (weights_by order ring) is
      ∙ weights_by-shares ring laws order c p
      ∙ ap (λ ws. share (𝟙 ⊖ c) ws ++ share c ws) before
      ∙ ap (λ ws. ws ++ share c (scaled_by_each ring table top)) (sym (scaled-twice (𝟙 ⊖ c) table top))
      ∙ ap (λ ws. scaled_by_each ring table (share (𝟙 ⊖ c) top) ++ ws) (sym (scaled-twice c table top))
      ∙ sym (flat_map-append (λ s. map (λ w. s ⊗ w) table) (share (𝟙 ⊖ c) top) (share c top))
      ∙ ap (scaled_by_each ring table) (sym (weights_by-shares ring laws order c high))

  weights-joined : (high low : List R) → weights ring (high ++ low) ≡ scaled_by_each ring (weights ring low) (weights ring high)
  weights-joined [] low = sym (ap (scaled_by_each ring (weights ring low)) (weights_by-none ring laws Msb) ∙ scaled-one (weights ring low))
  weights-joined (c ∷ high) low = joined-more Msb c high (high ++ low) (c ∷ high ++ low) (weights ring low) refl (weights-joined high low)

  -- the last coordinates of the high ones, appended one by one
  lsb-appended : (low high more : List R) → lsb ring (low ++ high) ≡ scaled_by_each ring (lsb ring low) (lsb ring high) → lsb ring (low ++ (high ++ more)) ≡ scaled_by_each ring (lsb ring low) (lsb ring (high ++ more))
  lsb-appended low high [] before = ap (λ l. lsb ring (low ++ l)) (append-nil high) ∙ before ∙ ap (λ l. scaled_by_each ring (lsb ring low) (lsb ring l)) (sym (append-nil high))
  lsb-appended low high (c ∷ more) before =
      let next = joined-more Lsb c high (low ++ high) (low ++ (high ++ c ∷ [])) (lsb ring low) (sym (append_assoc low high (c ∷ []))) before in
      ap (λ l. lsb ring (low ++ l)) (sym (append_assoc high (c ∷ []) more))
      ∙ lsb-appended low (high ++ c ∷ []) more next
      ∙ ap (λ l. scaled_by_each ring (lsb ring low) (lsb ring l)) (append_assoc high (c ∷ []) more)

  lsb-joined : (high low : List R) → lsb ring (low ++ high) ≡ scaled_by_each ring (lsb ring low) (lsb ring high)
  lsb-joined high low =
      lsb-appended low [] high (ap (lsb ring) (append-nil low) ∙ sym (ap (scaled_by_each ring (lsb ring low)) (weights_by-none ring laws Lsb) ∙ scaled-one (lsb ring low)))

  pub weights_by-joined : (order : BitOrder) (high low : List R) → weights_by order ring (joined_by order high low) ≡ scaled_by_each ring (weights_by order ring low) (weights_by order ring high)
  weights_by-joined Msb high low = weights-joined high low
  weights_by-joined Lsb high low = lsb-joined high low

  -- the chunks from scaled weights of the high coordinates are the scaled table
  pub table-in_chunks : (order : BitOrder) (s : R) (high low whole seeds out : List R) → whole ≡ joined_by order high low → seeds ≡ map (λ w. s ⊗ w) (weights_by order ring high)
      → out ≡ scaled_by_each ring (weights_by order ring low) seeds → out ≡ map (λ w. s ⊗ w) (weights_by order ring whole)
  table-in_chunks order s high low whole seeds out is scaled filled =
      filled
      ∙ ap (scaled_by_each ring (weights_by order ring low)) scaled
      ∙ scaled-twice s (weights_by order ring low) (weights_by order ring high)
      ∙ ap (map (λ w. s ⊗ w)) (sym (ap (weights_by order ring) is ∙ weights_by-joined order high low))

  pub length-weights_by : (order : BitOrder) (p : List R) → length (weights_by order ring p) ≡ 2 ^ length p
  length-weights_by Msb p = length-weights ring p
  length-weights_by Lsb p = length-lsb ring laws p

  -- a chunk for each weight of the high coordinates
  pub chunks-many : (order : BitOrder) (s : R) (high seeds : List R) → seeds ≡ map (λ w. s ⊗ w) (weights_by order ring high) → length seeds ≡ 2 ^ length high
  chunks-many order s high seeds is = ap length is ∙ length-map (weights_by order ring high) (λ w. s ⊗ w) ∙ length-weights_by order high
