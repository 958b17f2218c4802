-- Sums of products, place by place.
use Rattle.std.proofs.Common.{◌≡◌, ℕ, zero, suc, refl, map, List, [], ◌∷◌, length, get_or, ap, sym, ◌∙◌, arith}
use Rattle.mlu_ring.specs.Ring.{Ring, RingLaws}
use Rattle.mlu_ring.specs.Sums.{sum_below}
use Rattle.mlu_ring.specs.Tables.{pair}
use Rattle.mlu_ring.proofs.Rings.{sum_zero, sum_product}

-- what is read of a list, read of its image
pub read-map : {A B : Type 0} (f : A → B) (xs : List A) (i : ℕ) (x : A) → x ≡ get_or xs i x → f x ≡ get_or (map f xs) i (f x)
read-map f [] i x h = refl
read-map f (y ∷ xs) zero x h = ap f h
read-map f (y ∷ xs) (suc i) x h = read-map f xs i x h

module _ {R : Type 0} (ring : Ring R) (laws : RingLaws ring) where
  infixl 50 ◌⊕◌
  infixl 60 ◌⊗◌
  open ring use {sum as ◌⊕◌, product as ◌⊗◌, zero as 𝟘, one as 𝟙}

  pub pair-of_four : (a b c d u v w x : R) → pair ring (a ∷ b ∷ c ∷ d ∷ []) (u ∷ v ∷ w ∷ x ∷ []) ≡ ((a ⊗ u) ⊕ (b ⊗ v)) ⊕ ((c ⊗ w) ⊕ (d ⊗ x))
  unfolding pair sum_below
  pair-of_four a b c d u v w x = simp (sum_zero ring laws, laws.sum_assoc)

  four-scaled : (a b c d p q r s f : R)
      → ((a ⊗ (p ⊗ f)) ⊕ (b ⊗ (q ⊗ f))) ⊕ ((c ⊗ (r ⊗ f)) ⊕ (d ⊗ (s ⊗ f))) ≡ (((a ⊗ p) ⊕ (b ⊗ q)) ⊕ ((c ⊗ r) ⊕ (d ⊗ s))) ⊗ f
  four-scaled a b c d p q r s f = simp (sum_product ring laws, laws.product_assoc)

  -- four factors that have one in common
  pub pair-scaled_four : (a b c d p q r s f : R)
      → pair ring (a ∷ b ∷ c ∷ d ∷ []) ((p ⊗ f) ∷ (q ⊗ f) ∷ (r ⊗ f) ∷ (s ⊗ f) ∷ []) ≡ pair ring (a ∷ b ∷ c ∷ d ∷ []) (p ∷ q ∷ r ∷ s ∷ []) ⊗ f
  pair-scaled_four a b c d p q r s f =
      pair-of_four a b c d (p ⊗ f) (q ⊗ f) (r ⊗ f) (s ⊗ f) ∙ four-scaled a b c d p q r s f ∙ ap (λ t. t ⊗ f) (sym (pair-of_four a b c d p q r s))

  -- four products, added in two halves, from what is read of the lists
  pub pair-four : (l r : List R) (a b c d u v w x : R) → length l ≡ 4 → length r ≡ 4
      → a ≡ get_or l 0 a → b ≡ get_or l 1 b → c ≡ get_or l 2 c → d ≡ get_or l 3 d
      → u ≡ get_or r 0 u → v ≡ get_or r 1 v → w ≡ get_or r 2 w → x ≡ get_or r 3 x
      → ((a ⊗ u) ⊕ (b ⊗ v)) ⊕ ((c ⊗ w) ⊕ (d ⊗ x)) ≡ pair ring l r
  pair-four (l0 ∷ l1 ∷ l2 ∷ l3 ∷ []) (r0 ∷ r1 ∷ r2 ∷ r3 ∷ []) a b c d u v w x h k ea eb ec ed eu ev ew ex =
      cc (ea, eb, ec, ed, eu, ev, ew, ex, pair-of_four l0 l1 l2 l3 r0 r1 r2 r3)
  pair-four l r a b c d u v w x h k ea eb ec ed eu ev ew ex = absurd (omega arith)
