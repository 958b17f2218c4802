-- The laws of the quartic's ring.
use Rattle.std.specs.Prelude.{◌≡◌, ◌↔◌, ◌&&◌, IsTrue, Bool, true, false}
use Rattle.std.proofs.Common.{sym, ap, ◌∙◌, refl}
use Rattle.std.specs.Cmp.Derive.{both_true}
use Rattle.mlu_ring.specs.Ring.{Ring, RingLaws, IsRingMap}
use Rattle.mlu_ring.specs.Sums.{sum_below}
use Rattle.mlu_ring.proofs.Rings.{sum_zero, negation_zero, product_zero, zero_product, sum_product, sum_left_comm, product_left_comm}
use Rattle.mlu_ext.specs.Eleven.{eleven}
use Rattle.mlu_ext.specs.Quartic.{convolution, reduced, quartic_coefficients, quartic, constant, quartic_product, quartic_ring, CoefficientwisePair, CoefficientwiseTriple}
use Rattle.mlu_ext.specs.declared.quartic.QuarticExtension.{QuarticExtension}

pub quartic_same : {R : Type 0} {a b c d e f g h : R} → a ≡ e → b ≡ f → c ≡ g → d ≡ h → quartic a b c d ≡ quartic e f g h
quartic_same p q r s = λ i. quartic (p i) (q i) (r i) (s i)

-- where a relation of the coefficients is a function, that of the polynomials is this function of each
pub coefficients_by : {R : Type 0} (P : R → R → R → Type 0) (f : R → R → R) → ((x y z : R) → P x y z → z ≡ f x y)
    → (a b r : QuarticExtension R) → CoefficientwiseTriple P a b r → r ≡ quartic (f a.c0 b.c0) (f a.c1 b.c1) (f a.c2 b.c2) (f a.c3 b.c3)
coefficients_by P f gives a b r h = quartic_same (gives _ _ _ h.0) (gives _ _ _ h.1) (gives _ _ _ h.2) (gives _ _ _ h.3)

pub coefficients_each_by : {R : Type 0} (P : R → R → Type 0) (f : R → R) → ((x z : R) → P x z → z ≡ f x) → (a r : QuarticExtension R)
    → CoefficientwisePair P a r → r ≡ quartic (f a.c0) (f a.c1) (f a.c2) (f a.c3)
coefficients_each_by P f gives a r h = quartic_same (gives _ _ h.0) (gives _ _ h.1) (gives _ _ h.2) (gives _ _ h.3)

module _ {R : Type 0} (ring : Ring R) (laws : RingLaws ring) where
  infixl 50 ◌⊕◌
  infixl 60 ◌⊗◌
  open ring use {sum as ◌⊕◌, product as ◌⊗◌, zero as 𝟘, one as 𝟙}

  -- the coefficients of a product as four sums of four products, where X^4 is w
  module _ (w : R) where
    abbrev pub written : QuarticExtension R → QuarticExtension R → QuarticExtension R
    written a b =
        quartic
        ((a.c0 ⊗ b.c0) ⊕ (a.c1 ⊗ (w ⊗ b.c3)) ⊕ ((a.c2 ⊗ (w ⊗ b.c2)) ⊕ (a.c3 ⊗ (w ⊗ b.c1))))
        ((a.c0 ⊗ b.c1) ⊕ (a.c1 ⊗ b.c0) ⊕ ((a.c2 ⊗ (w ⊗ b.c3)) ⊕ (a.c3 ⊗ (w ⊗ b.c2))))
        ((a.c0 ⊗ b.c2) ⊕ (a.c1 ⊗ b.c1) ⊕ ((a.c2 ⊗ b.c0) ⊕ (a.c3 ⊗ (w ⊗ b.c3))))
        ((a.c0 ⊗ b.c3) ⊕ (a.c1 ⊗ b.c2) ⊕ ((a.c2 ⊗ b.c1) ⊕ (a.c3 ⊗ b.c0)))

    written-assoc : (a b c : QuarticExtension R) → written (written a b) c ≡ written a (written b c)
    written-assoc a b c =
        quartic_same
        (simp (laws.product_sum, sum_product ring laws, laws.product_assoc, product_left_comm ring laws, laws.sum_assoc, sum_left_comm ring laws, laws.sum_comm))
        (simp (laws.product_sum, sum_product ring laws, laws.product_assoc, product_left_comm ring laws, laws.sum_assoc, sum_left_comm ring laws, laws.sum_comm))
        (simp (laws.product_sum, sum_product ring laws, laws.product_assoc, product_left_comm ring laws, laws.sum_assoc, sum_left_comm ring laws, laws.sum_comm))
        (simp (laws.product_sum, sum_product ring laws, laws.product_assoc, product_left_comm ring laws, laws.sum_assoc, sum_left_comm ring laws, laws.sum_comm))

    written-comm : (a b : QuarticExtension R) → written a b ≡ written b a
    written-comm a b =
        quartic_same
        (simp (product_left_comm ring laws, laws.product_comm, laws.sum_assoc, sum_left_comm ring laws, laws.sum_comm))
        (simp (product_left_comm ring laws, laws.product_comm, laws.sum_assoc, sum_left_comm ring laws, laws.sum_comm))
        (simp (product_left_comm ring laws, laws.product_comm, laws.sum_assoc, sum_left_comm ring laws))
        (simp (laws.product_comm, laws.sum_assoc, sum_left_comm ring laws, laws.sum_comm))

    written-sum : (a b c : QuarticExtension R)
        → written a ((quartic_ring ring).sum b c) ≡ (quartic_ring ring).sum (written a b) (written a c)
    written-sum a b c =
        quartic_same
        (simp (laws.product_sum, laws.sum_assoc, sum_left_comm ring laws))
        (simp (laws.product_sum, laws.sum_assoc, sum_left_comm ring laws))
        (simp (laws.product_sum, laws.sum_assoc, sum_left_comm ring laws))
        (simp (laws.product_sum, laws.sum_assoc, sum_left_comm ring laws))

  -- the only term that is left where the coefficients of X, X^2 and X^3 are zero
  alone : (t u v x : R) → t ⊕ (𝟘 ⊗ u) ⊕ ((𝟘 ⊗ v) ⊕ (𝟘 ⊗ x)) ≡ t
  alone t u v x = simp (zero_product ring laws, sum_zero ring laws)

  -- what the product modulo X^4 - 11 comes to
  module _ (a b : QuarticExtension R) where
    reduced-0 : reduced ring (quartic_coefficients a) (quartic_coefficients b) 0 ≡ (written (eleven ring) a b).c0
    unfolding reduced convolution sum_below
    reduced-0 =
        let terms : reduced ring (quartic_coefficients a) (quartic_coefficients b) 0
        ≡ ((a.c0 ⊗ b.c0) ⊕ 𝟘) ⊕ (eleven ring ⊗ ((a.c0 ⊗ 𝟘) ⊕ ((a.c1 ⊗ b.c3) ⊕ ((a.c2 ⊗ b.c2) ⊕ ((a.c3 ⊗ b.c1) ⊕ ((𝟘 ⊗ b.c0) ⊕ 𝟘)))))) = refl in
        terms ∙ simp (product_zero ring laws, zero_product ring laws, laws.zero_sum, sum_zero ring laws, laws.product_sum, laws.sum_assoc, product_left_comm ring laws)

    reduced-1 : reduced ring (quartic_coefficients a) (quartic_coefficients b) 1 ≡ (written (eleven ring) a b).c1
    unfolding reduced convolution sum_below
    reduced-1 =
        let terms : reduced ring (quartic_coefficients a) (quartic_coefficients b) 1
        ≡ ((a.c0 ⊗ b.c1) ⊕ ((a.c1 ⊗ b.c0) ⊕ 𝟘)) ⊕ (eleven ring ⊗ ((a.c0 ⊗ 𝟘) ⊕ ((a.c1 ⊗ 𝟘) ⊕ ((a.c2 ⊗ b.c3) ⊕ ((a.c3 ⊗ b.c2) ⊕ ((𝟘 ⊗ b.c1) ⊕ ((𝟘 ⊗ b.c0) ⊕ 𝟘))))))) = refl in
        terms ∙ simp (product_zero ring laws, zero_product ring laws, laws.zero_sum, sum_zero ring laws, laws.product_sum, laws.sum_assoc, product_left_comm ring laws)

    reduced-2 : reduced ring (quartic_coefficients a) (quartic_coefficients b) 2 ≡ (written (eleven ring) a b).c2
    unfolding reduced convolution sum_below
    reduced-2 =
        let terms : reduced ring (quartic_coefficients a) (quartic_coefficients b) 2
        ≡ ((a.c0 ⊗ b.c2) ⊕ ((a.c1 ⊗ b.c1) ⊕ ((a.c2 ⊗ b.c0) ⊕ 𝟘))) ⊕ (eleven ring ⊗ ((a.c0 ⊗ 𝟘) ⊕ ((a.c1 ⊗ 𝟘) ⊕ ((a.c2 ⊗ 𝟘) ⊕ ((a.c3 ⊗ b.c3) ⊕ ((𝟘 ⊗ b.c2) ⊕ ((𝟘 ⊗ b.c1) ⊕ ((𝟘 ⊗ b.c0) ⊕ 𝟘)))))))) = refl in
        terms ∙ simp (product_zero ring laws, zero_product ring laws, laws.zero_sum, sum_zero ring laws, laws.sum_assoc, product_left_comm ring laws)

    reduced-3 : reduced ring (quartic_coefficients a) (quartic_coefficients b) 3 ≡ (written (eleven ring) a b).c3
    unfolding reduced convolution sum_below
    reduced-3 =
        let terms : reduced ring (quartic_coefficients a) (quartic_coefficients b) 3
        ≡ ((a.c0 ⊗ b.c3) ⊕ ((a.c1 ⊗ b.c2) ⊕ ((a.c2 ⊗ b.c1) ⊕ ((a.c3 ⊗ b.c0) ⊕ 𝟘)))) ⊕ (eleven ring ⊗ ((a.c0 ⊗ 𝟘) ⊕ ((a.c1 ⊗ 𝟘) ⊕ ((a.c2 ⊗ 𝟘) ⊕ ((a.c3 ⊗ 𝟘) ⊕ ((𝟘 ⊗ b.c3) ⊕ ((𝟘 ⊗ b.c2) ⊕ ((𝟘 ⊗ b.c1) ⊕ ((𝟘 ⊗ b.c0) ⊕ 𝟘))))))))) = refl in
        terms ∙ simp (product_zero ring laws, zero_product ring laws, laws.zero_sum, sum_zero ring laws, laws.sum_assoc)

  pub product-written : (a b : QuarticExtension R) → quartic_product ring a b ≡ written (eleven ring) a b
  product-written a b = quartic_same (reduced-0 a b) (reduced-1 a b) (reduced-2 a b) (reduced-3 a b)

  product-assoc : (a b c : QuarticExtension R)
      → quartic_product ring (quartic_product ring a b) c ≡ quartic_product ring a (quartic_product ring b c)
  product-assoc a b c =
      let w = eleven ring in
      ap (λ p. quartic_product ring p c) (product-written a b)
      ∙ product-written (written w a b) c
      ∙ written-assoc w a b c
      ∙ sym (product-written a (written w b c))
      ∙ ap (quartic_product ring a) (sym (product-written b c))

  pub product-comm : (a b : QuarticExtension R) → quartic_product ring a b ≡ quartic_product ring b a
  product-comm a b = product-written a b ∙ written-comm (eleven ring) a b ∙ sym (product-written b a)

  product-sum : (a b c : QuarticExtension R)
      → quartic_product ring a ((quartic_ring ring).sum b c) ≡ (quartic_ring ring).sum (quartic_product ring a b) (quartic_product ring a c)
  product-sum a b c =
      let sum = (quartic_ring ring).sum in
      product-written a (sum b c)
      ∙ written-sum (eleven ring) a b c
      ∙ ap (λ p. sum p (written (eleven ring) a c)) (sym (product-written a b))
      ∙ ap (sum (quartic_product ring a b)) (sym (product-written a c))

  -- the constant x times b has each coefficient of b times x
  pub constant-product : (x : R) (b : QuarticExtension R)
      → quartic_product ring (constant 𝟘 x) b ≡ quartic (x ⊗ b.c0) (x ⊗ b.c1) (x ⊗ b.c2) (x ⊗ b.c3)
  constant-product x b = product-written (constant 𝟘 x) b ∙ quartic_same (alone _ _ _ _) (alone _ _ _ _) (alone _ _ _ _) (alone _ _ _ _)

  pub quartic_laws : RingLaws (quartic_ring ring)
  quartic_laws = record {
    sum_assoc = λ a b c. quartic_same (laws.sum_assoc _ _ _) (laws.sum_assoc _ _ _) (laws.sum_assoc _ _ _) (laws.sum_assoc _ _ _);
    sum_comm = λ a b. quartic_same (laws.sum_comm _ _) (laws.sum_comm _ _) (laws.sum_comm _ _) (laws.sum_comm _ _);
    zero_sum = λ a. quartic_same (laws.zero_sum _) (laws.zero_sum _) (laws.zero_sum _) (laws.zero_sum _);
    negation_sum = λ a. quartic_same (laws.negation_sum _) (laws.negation_sum _) (laws.negation_sum _) (laws.negation_sum _);
    minus_is = λ a b. quartic_same (laws.minus_is _ _) (laws.minus_is _ _) (laws.minus_is _ _) (laws.minus_is _ _);
    product_assoc = product-assoc;
    product_comm = product-comm;
    one_product = λ a. constant-product 𝟙 a ∙ quartic_same (laws.one_product _) (laws.one_product _) (laws.one_product _) (laws.one_product _);
    product_sum = product-sum;
  }

  pub constant_is_ring_map : IsRingMap ring (quartic_ring ring) (constant 𝟘)
  constant_is_ring_map = record {
    zero = refl;
    one = refl;
    sum = λ a b. quartic_same refl (sym (laws.zero_sum 𝟘)) (sym (laws.zero_sum 𝟘)) (sym (laws.zero_sum 𝟘));
    product = λ a b. sym (constant-product a (constant 𝟘 b) ∙ quartic_same refl (product_zero ring laws a) (product_zero ring laws a) (product_zero ring laws a));
  }

  pub constant_two : {z two : R} → z ≡ 𝟘 → two ≡ 𝟙 ⊕ 𝟙 → constant z two ≡ (quartic_ring ring).sum (constant 𝟘 𝟙) (constant 𝟘 𝟙)
  constant_two h k = quartic_same k h h h ∙ constant_is_ring_map.sum 𝟙 𝟙

  pub constant_neg_one : {z neg_one : R} → z ≡ 𝟘 → neg_one ≡ ring.negation 𝟙
      → constant z neg_one ≡ (quartic_ring ring).negation (constant 𝟘 𝟙)
  constant_neg_one h k =
      let e = h ∙ sym (negation_zero ring laws) in
      quartic_same k e e e

both : (b c : Bool) → (b && c) ≡ true → (b ≡ true) × (c ≡ true)
both true c h = (refl, h)
both false c h = cc

-- where the test of two elements decides their equality, so does the test of the coefficients
pub quartic_eq : {R : Type 0} (E : R → R → Bool) → ((x y : R) → IsTrue (E x y) ↔ (x ≡ y)) → (a b : QuarticExtension R)
    → IsTrue (E a.c0 b.c0 && (E a.c1 b.c1 && (E a.c2 b.c2 && E a.c3 b.c3))) ↔ (a ≡ b)
quartic_eq E decides a b = (
  λ h.
      let p = both (E a.c0 b.c0) (E a.c1 b.c1 && (E a.c2 b.c2 && E a.c3 b.c3)) h in
      let q = both (E a.c1 b.c1) (E a.c2 b.c2 && E a.c3 b.c3) p.1 in
      let r = both (E a.c2 b.c2) (E a.c3 b.c3) q.1 in
      quartic_same ((decides _ _).0 p.0) ((decides _ _).0 q.0) ((decides _ _).0 r.0) ((decides _ _).0 r.1),
  λ e.
      both_true ((decides _ _).1 (ap (λ x. x.c0) e)) (both_true ((decides _ _).1 (ap (λ x. x.c1) e)) (both_true ((decides _ _).1 (ap (λ x. x.c2) e)) ((decides _ _).1 (ap (λ x. x.c3) e)))),
)
