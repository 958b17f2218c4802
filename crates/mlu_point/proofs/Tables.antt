-- Tables in both orders.
use Rattle.std.proofs.Common.{◌≡◌, ◌^◌, List, [], ◌∷◌, ◌++◌, map, length, set, refl, sym, ap, arith}
use Rattle.mlu_ring.specs.Ring.{Ring, RingLaws}
use Rattle.mlu_ring.proofs.Rings.{product_one}
use Rattle.mlu_ring.proofs.Doubling.{weights-first, weights-none}
use Rattle.mlu_ring.proofs.Reversed.{lsb-last, lsb-none, table-shares}
use Rattle.mlu_point.specs.declared.point.order.BitOrder.{BitOrder}
use Rattle.mlu_point.specs.declared.point.order.BitOrder.TheVariants.{Msb, Lsb}
use Rattle.mlu_point.specs.Orders.{weights_by, with_top}

module _ {R : Type 0} (ring : Ring R) (laws : RingLaws ring) where
  infixl 50 ◌⊕◌
  infixl 50 ◌⊖◌
  infixl 60 ◌⊗◌
  open ring use {sum as ◌⊕◌, product as ◌⊗◌, minus as ◌⊖◌, zero as 𝟘, one as 𝟙, negation as neg}

  pub weights_by-shares : (order : BitOrder) (c : R) (p : List R) → weights_by order ring (with_top order c p) ≡ map (λ w. (𝟙 ⊖ c) ⊗ w) (weights_by order ring p) ++ map (λ w. c ⊗ w) (weights_by order ring p)
  weights_by-shares Msb c p = weights-first ring laws c p
  weights_by-shares Lsb c p = lsb-last ring laws p c

  -- the doubled table is that of the point with one more coordinate
  pub table-doubled : (order : BitOrder) (s c : R) (p low whole : List R) → whole ≡ with_top order c p → low ≡ map (λ w. s ⊗ w) (weights_by order ring p) → map (λ w. w ⊖ (w ⊗ c)) low ++ map (λ w. w ⊗ c) low ≡ map (λ w. s ⊗ w) (weights_by order ring whole)
  table-doubled order s c p low whole is filled =
      rw is (table-shares ring laws s c (weights_by order ring p) low (weights_by order ring (with_top order c p)) filled (weights_by-shares order c p))

  pub weights_by-none : (order : BitOrder) → weights_by order ring [] ≡ 𝟙 ∷ []
  weights_by-none Msb = weights-none ring laws
  weights_by-none Lsb = lsb-none ring laws

  -- the table of no coordinates is the scale
  pub table-scale : (order : BitOrder) (s : R) (out p : List R) → length p ≡ 0 → length out ≡ 2 ^ length p → set out 0 s ≡ map (λ w. s ⊗ w) (weights_by order ring p)
  table-scale order s [] [] h k = absurd (omega arith)
  table-scale order s (x ∷ []) [] h k = rw (weights_by-none order) (ap (λ t. t ∷ []) (sym (product_one ring laws s)))
  table-scale order s (x ∷ y ∷ more) [] h k = absurd (omega arith)
  table-scale order s out (c ∷ p) h k = absurd (omega arith)
