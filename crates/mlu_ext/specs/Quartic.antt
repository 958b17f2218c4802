-- Polynomials modulo X^4 - 11, by their coefficients.
use Rattle.std.specs.Prelude.{ℕ, List, [], ◌∷◌, ◌+◌, ◌-◌, slice_index_or}
use Rattle.mlu_ring.specs.Ring.{Ring}
use Rattle.mlu_ring.specs.Sums.{sum_below}
use Rattle.mlu_ext.specs.Eleven.{eleven}
use Rattle.mlu_ext.specs.declared.quartic.QuarticExtension.{QuarticExtension}

-- the coefficients of 1, X, X^2 and X^3
abbrev pub quartic_coefficients : {R : Type 0} → QuarticExtension R → List R
quartic_coefficients a = a.c0 ∷ a.c1 ∷ a.c2 ∷ a.c3 ∷ []

-- the polynomial with these coefficients
abbrev pub quartic : {R : Type 0} → R → R → R → R → QuarticExtension R
quartic a b c d = record { c0 = a; c1 = b; c2 = c; c3 = d }

abbrev pub of_four : {R : Type 0} → R × R × R × R → QuarticExtension R
of_four t = quartic t.0 t.1 t.2 t.3

-- the constant x, where z is zero
abbrev pub constant : {R : Type 0} → R → R → QuarticExtension R
constant z x = quartic x z z z

-- each coefficient's image
abbrev pub quartic_map : {B R : Type 0} → (B → R) → QuarticExtension B → QuarticExtension R
quartic_map f a = quartic (f a.c0) (f a.c1) (f a.c2) (f a.c3)

-- the polynomial with the first four of the list as coefficients, and d where it is too short
abbrev pub quartic_of : {R : Type 0} → R → List R → QuarticExtension R
quartic_of d xs = quartic (slice_index_or xs 0 d) (slice_index_or xs 1 d) (slice_index_or xs 2 d) (slice_index_or xs 3 d)

-- the sum of a[i] times b[j] over i + j = k
unfoldable pub convolution : {R : Type 0} → Ring R → List R → List R → ℕ → R
convolution ring a b k = sum_below ring (k + 1) (λ i. ring.product (slice_index_or a i ring.zero) (slice_index_or b (k - i) ring.zero))

-- coefficient k of the product, where X^(k + 4) is 11 times X^k
unfoldable pub reduced : {R : Type 0} → Ring R → List R → List R → ℕ → R
reduced ring a b k = ring.sum (convolution ring a b k) (ring.product (eleven ring) (convolution ring a b (k + 4)))

abbrev pub quartic_product : {R : Type 0} → Ring R → QuarticExtension R → QuarticExtension R → QuarticExtension R
quartic_product ring p q =
    let a = quartic_coefficients p in
    let b = quartic_coefficients q in
    quartic (reduced ring a b 0) (reduced ring a b 1) (reduced ring a b 2) (reduced ring a b 3)

-- a + b X + c X^2 + d X^3, where X^4 is w
abbrev pub by_powers_where : {R : Type 0} → Ring R → (w : R) (a b c d : QuarticExtension R) → QuarticExtension R
by_powers_where ring w a b c d =
    quartic
    (ring.sum a.c0 (ring.product w (ring.sum (ring.sum b.c3 c.c2) d.c1)))
    (ring.sum (ring.sum a.c1 b.c0) (ring.product w (ring.sum c.c3 d.c2)))
    (ring.sum (ring.sum (ring.sum a.c2 b.c1) c.c0) (ring.product w d.c3))
    (ring.sum (ring.sum (ring.sum a.c3 b.c2) c.c1) d.c0)

-- the same where X^4 is 11
abbrev pub by_powers : {R : Type 0} → Ring R → (a b c d : QuarticExtension R) → QuarticExtension R
by_powers ring = by_powers_where ring (eleven ring)

abbrev pub quartic_ring : {R : Type 0} → Ring R → Ring (QuarticExtension R)
quartic_ring ring = record {
  zero = constant ring.zero ring.zero;
  one = constant ring.zero ring.one;
  sum = λ a b. quartic (ring.sum a.c0 b.c0) (ring.sum a.c1 b.c1) (ring.sum a.c2 b.c2) (ring.sum a.c3 b.c3);
  minus = λ a b. quartic (ring.minus a.c0 b.c0) (ring.minus a.c1 b.c1) (ring.minus a.c2 b.c2) (ring.minus a.c3 b.c3);
  negation = λ a. quartic (ring.negation a.c0) (ring.negation a.c1) (ring.negation a.c2) (ring.negation a.c3);
  product = quartic_product ring;
}

-- P holds of each coefficient
abbrev pub Coefficientwise : {R : Type 0} → (R → Type 0) → QuarticExtension R → Type 0
Coefficientwise P a = P a.c0 × P a.c1 × P a.c2 × P a.c3

-- and of the coefficients of two, one by one
abbrev pub CoefficientwisePair : {R : Type 0} → (R → R → Type 0) → QuarticExtension R → QuarticExtension R → Type 0
CoefficientwisePair P a b = P a.c0 b.c0 × P a.c1 b.c1 × P a.c2 b.c2 × P a.c3 b.c3

-- and of those of three
abbrev pub CoefficientwiseTriple : {R : Type 0} → (R → R → R → Type 0) → QuarticExtension R → QuarticExtension R → QuarticExtension R
    → Type 0
CoefficientwiseTriple P a b c = P a.c0 b.c0 c.c0 × P a.c1 b.c1 c.c1 × P a.c2 b.c2 c.c2 × P a.c3 b.c3 c.c3
