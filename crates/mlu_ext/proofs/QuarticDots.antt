-- Sums of products of polynomials, by the sums of the products of their coefficients.
use Rattle.std.specs.Prelude.{◌≡◌, ℕ, List, [], ◌∷◌, length}
use Rattle.std.proofs.Common.{sym, ◌∙◌, arith}
use Rattle.mlu_ring.specs.Columns.{column_of}
use Rattle.mlu_ring.specs.Ring.{Ring, RingLaws}
use Rattle.mlu_ring.specs.Tables.{pair}
use Rattle.mlu_ring.proofs.Rings.{product_zero, product_left_comm, sum_left_comm, sum_zero}
use Rattle.mlu_ring.proofs.Totals.{pair-nil, pair-cons}
use Rattle.mlu_ext.specs.Eleven.{eleven}
use Rattle.mlu_ext.specs.Quartic.{quartic_coefficients, quartic, by_powers, by_powers_where, quartic_ring}
use Rattle.mlu_ext.specs.QuarticLaws.{quartic_same, product-written, written, quartic_laws}
use Rattle.mlu_ext.specs.declared.quartic.QuarticExtension.{QuarticExtension}

module _ {R : Type 0} (ring : Ring R) (laws : RingLaws ring) where
  infixl 50 ◌⊕◌
  infixl 60 ◌⊗◌
  open ring use {sum as ◌⊕◌, product as ◌⊗◌, zero as 𝟘}

  abbrev powers : (w : R) (a b c d : QuarticExtension R) → QuarticExtension R
  powers = by_powers_where ring

  abbrev scaled : R → QuarticExtension R → QuarticExtension R
  scaled x y = quartic (x ⊗ y.c0) (x ⊗ y.c1) (x ⊗ y.c2) (x ⊗ y.c3)

  written-powers : (w : R) (x y : QuarticExtension R)
      → written ring laws w x y ≡ powers w (scaled x.c0 y) (scaled x.c1 y) (scaled x.c2 y) (scaled x.c3 y)
  written-powers w x y =
      quartic_same
      (simp (laws.product_sum, product_left_comm ring laws, laws.sum_assoc))
      (simp (laws.product_sum, product_left_comm ring laws, laws.sum_assoc))
      (simp (product_left_comm ring laws, laws.sum_assoc))
      (simp (laws.sum_assoc))

  powers-sum : (w : R) (a b c d p q r s : QuarticExtension R)
      → (quartic_ring ring).sum (powers w a b c d) (powers w p q r s)
      ≡ powers w ((quartic_ring ring).sum a p) ((quartic_ring ring).sum b q) ((quartic_ring ring).sum c r) ((quartic_ring ring).sum d s)
  powers-sum w a b c d p q r s =
      quartic_same
      (simp (laws.product_sum, laws.sum_assoc, sum_left_comm ring laws))
      (simp (laws.product_sum, laws.sum_assoc, sum_left_comm ring laws))
      (simp (laws.product_sum, laws.sum_assoc, sum_left_comm ring laws))
      (simp (laws.sum_assoc, sum_left_comm ring laws))

  powers-zero : (w : R) → (quartic_ring ring).zero ≡ powers w (quartic_ring ring).zero (quartic_ring ring).zero (quartic_ring ring).zero (quartic_ring ring).zero
  powers-zero w =
      quartic_same
      (simp (product_zero ring laws, sum_zero ring laws))
      (simp (product_zero ring laws, sum_zero ring laws))
      (simp (product_zero ring laws, sum_zero ring laws))
      (simp (sum_zero ring laws))

  abbrev column : List (QuarticExtension R) → ℕ → List R
  column = column_of ring.zero quartic_coefficients

  -- a column times the four of the elements of r
  abbrev pub column_times : List R → List (QuarticExtension R) → QuarticExtension R
  column_times xs r = quartic (pair ring xs (column r 0)) (pair ring xs (column r 1)) (pair ring xs (column r 2)) (pair ring xs (column r 3))

  column_times-nil : (r : List (QuarticExtension R)) → (quartic_ring ring).zero ≡ column_times [] r
  column_times-nil r =
      quartic_same
      (sym (pair-nil ring laws (column r 0)))
      (sym (pair-nil ring laws (column r 1)))
      (sym (pair-nil ring laws (column r 2)))
      (sym (pair-nil ring laws (column r 3)))

  column_times-cons : (x : R) (y : QuarticExtension R) (xs : List R) (r : List (QuarticExtension R))
      → (quartic_ring ring).sum (scaled x y) (column_times xs r) ≡ column_times (x ∷ xs) (y ∷ r)
  column_times-cons x y xs r =
      quartic_same
      (sym (pair-cons ring laws x y.c0 xs (column r 0)))
      (sym (pair-cons ring laws x y.c1 xs (column r 1)))
      (sym (pair-cons ring laws x y.c2 xs (column r 2)))
      (sym (pair-cons ring laws x y.c3 xs (column r 3)))

  dot-powers : (l r : List (QuarticExtension R)) → length l ≡ length r
      → pair (quartic_ring ring) l r
      ≡ powers (eleven ring) (column_times (column l 0) r) (column_times (column l 1) r) (column_times (column l 2) r) (column_times (column l 3) r)
  dot-powers [] [] h =
      pair-nil (quartic_ring ring) (quartic_laws ring laws) [] ∙ powers-zero (eleven ring)
      ∙ (λ i. powers (eleven ring) (column_times-nil [] i) (column_times-nil [] i) (column_times-nil [] i) (column_times-nil [] i))
  dot-powers [] (y ∷ r) h = absurd (omega arith)
  dot-powers (x ∷ l) [] h = absurd (omega arith)
  dot-powers (x ∷ l) (y ∷ r) h =
      let w = eleven ring in
      let first = product-written ring laws x y ∙ written-powers w x y in
      let others = dot-powers l r (omega arith) in
      pair-cons (quartic_ring ring) (quartic_laws ring laws) x y l r
      ∙ (λ i. (quartic_ring ring).sum (first i) (others i))
      ∙ powers-sum w _ _ _ _ _ _ _ _
      ∙ (λ i. powers w (column_times-cons x.c0 y (column l 0) r i) (column_times-cons x.c1 y (column l 1) r i)
      (column_times-cons x.c2 y (column l 2) r i) (column_times-cons x.c3 y (column l 3) r i))

  -- the sum of the products, from what the columns give
  pub joined-dot : (l r : List (QuarticExtension R)) (a b c d : QuarticExtension R) → length l ≡ length r
      → a ≡ column_times (column l 0) r → b ≡ column_times (column l 1) r → c ≡ column_times (column l 2) r → d ≡ column_times (column l 3) r
      → by_powers ring a b c d ≡ pair (quartic_ring ring) l r
  joined-dot l r a b c d h first second third fourth =
      (λ i. by_powers ring (first i) (second i) (third i) (fourth i)) ∙ sym (dot-powers l r h)
