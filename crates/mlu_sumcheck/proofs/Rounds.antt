-- Rounds as sums over the places of a half, and their values.
use Rattle.std.proofs.Common.{◌≡◌, ℕ, ◌+◌, ◌/◌, ◌<◌, List, [], ◌∷◌, length, take, drop, get_or, refl, sym, ap, ◌∙◌, arith}
use Rattle.std.proofs.lemmas.List.{get_or-take, get_or-drop, length-take-le, length-drop}
use Rattle.std.proofs.lemmas.Simd.{get_or-zip2, length-zip2}
use Rattle.std.specs.Simd.Lanes.{zip2}
use Rattle.mlu_ring.specs.Ring.{Ring, RingLaws}
use Rattle.mlu_ring.specs.Sums.{sum_below}
use Rattle.mlu_ring.specs.Tables.{pair, front, line, univariate}
use Rattle.mlu_ring.proofs.Rings.{sum_zero, sum_left_comm, product_one, product_left_comm, sum_product, product_zero, sum_negation, line_by_step}
use Rattle.mlu_ring.proofs.SumsBelow.{sum_below-same, sum_below-add, sum_below-sum, sum_below-product_right}
use Rattle.mlu_ring.proofs.Totals.{sum_below-more}
use Rattle.mlu_ring.proofs.Univariate.{length-front}
use Rattle.mlu_ring.proofs.Folds.{front_of_two-entry}
use Rattle.mlu_sumcheck.specs.Rounds.{lower, rise, round, AddsUpTo}

halved : (n h : ℕ) → n ≡ h + h → n / 2 ≡ h
halved n h e = omega arith

-- three entries, read one by one
pub three-read : {X : Type 0} (g : List X) (a b d : X) → length g ≡ 3 → get_or g 0 a ∷ get_or g 1 b ∷ get_or g 2 d ∷ [] ≡ g
three-read (x ∷ y ∷ z ∷ []) a b d long = refl
three-read [] a b d long = absurd (omega arith)
three-read (x ∷ []) a b d long = absurd (omega arith)
three-read (x ∷ y ∷ []) a b d long = absurd (omega arith)
three-read (x ∷ y ∷ z ∷ u ∷ more) a b d long = absurd (omega arith)

module _ {R : Type 0} (ring : Ring R) where
  infixl 50 ◌⊕◌
  infixl 50 ◌⊖◌
  infixl 60 ◌⊗◌
  open ring use {sum as ◌⊕◌, product as ◌⊗◌, minus as ◌⊖◌, zero as 𝟘}

  -- what the places z and h + z of two tables give to the value at 0, to that at 1, and to the other coefficients
  abbrev pub low_term : List R → List R → ℕ → R
  low_term w e z = get_or w z 𝟘 ⊗ get_or e z 𝟘

  abbrev pub high_term : ℕ → List R → List R → ℕ → R
  high_term h w e z = get_or w (h + z) 𝟘 ⊗ get_or e (h + z) 𝟘

  abbrev pub linear_term : ℕ → List R → List R → ℕ → R
  linear_term h w e z = (get_or w z 𝟘 ⊗ (get_or e (h + z) 𝟘 ⊖ get_or e z 𝟘)) ⊕ ((get_or w (h + z) 𝟘 ⊖ get_or w z 𝟘) ⊗ get_or e z 𝟘)

  abbrev pub rise_term : ℕ → List R → List R → ℕ → R
  rise_term h w e z = (get_or w (h + z) 𝟘 ⊖ get_or w z 𝟘) ⊗ (get_or e (h + z) 𝟘 ⊖ get_or e z 𝟘)

module _ {R : Type 0} (ring : Ring R) (laws : RingLaws ring) where
  infixl 50 ◌⊕◌
  infixl 50 ◌⊖◌
  infixl 60 ◌⊗◌
  open ring use {sum as ◌⊕◌, product as ◌⊗◌, minus as ◌⊖◌, zero as 𝟘, one as 𝟙, negation as neg}

  lower-entry : (e : List R) (h x : ℕ) → length e / 2 ≡ h → x < h → get_or (lower e) x 𝟘 ≡ get_or e x 𝟘
  lower-entry e h x is below = ap (λ k. get_or (take k e) x 𝟘) is ∙ get_or-take h e x 𝟘 below

  rise-entry : (e : List R) (h x : ℕ) → length e ≡ h + h → x < h → get_or (rise ring e) x 𝟘 ≡ get_or e (h + x) 𝟘 ⊖ get_or e x 𝟘
  rise-entry e h x size below =
      let is = halved (length e) h size in
      let first : x < length (drop h e) = omega (arith, length-drop h e, size, below) in
      let second : x < length (take h e) = omega (arith, length-take-le h e (omega (arith, size)), below) in
      ap (λ k. get_or (zip2 ring.minus (drop k e) (take k e)) x 𝟘) is
      ∙ get_or-zip2 ring.minus (drop h e) (take h e) x 𝟘 𝟘 𝟘 first second
      ∙ ap (λ t. t ⊖ get_or (take h e) x 𝟘) (get_or-drop h e x 𝟘)
      ∙ ap (λ t. get_or e (h + x) 𝟘 ⊖ t) (get_or-take h e x 𝟘 below)

  length-lower : (e : List R) (h : ℕ) → length e ≡ h + h → length (lower e) ≡ h
  length-lower e h size = ap (λ k. length (take k e)) (halved (length e) h size) ∙ length-take-le h e (omega (arith, size))

  length-rise : (e : List R) (h : ℕ) → length e ≡ h + h → length (rise ring e) ≡ h
  length-rise e h size =
      let high : length (drop h e) ≡ h = omega (arith, length-drop h e, size) in
      let low = length-take-le h e (omega (arith, size)) in
      ap (λ k. length (zip2 ring.minus (drop k e) (take k e))) (halved (length e) h size)
      ∙ length-zip2 ring.minus (drop h e) (take h e) (high ∙ sym low)
      ∙ high

  pair-terms : (v u : List R) (n : ℕ) (f : ℕ → R) → length v ≡ n → ((x : ℕ) → x < n → get_or v x 𝟘 ⊗ get_or u x 𝟘 ≡ f x) → pair ring v u ≡ sum_below ring n f
  unfolding pair
  pair-terms v u n f long at =
      ap (λ k. sum_below ring k (λ x. get_or v x 𝟘 ⊗ get_or u x 𝟘)) long
      ∙ sum_below-same ring n (λ x. get_or v x 𝟘 ⊗ get_or u x 𝟘) f at

  both : (a b x y : R) → a ≡ b → x ≡ y → a ⊗ x ≡ b ⊗ y
  both a b x y p q = ap (λ t. t ⊗ x) p ∙ ap (λ t. b ⊗ t) q

  module _ (w e : List R) (h : ℕ) (size_w : length w ≡ h + h) (size_e : length e ≡ h + h) where
    pub constant-sum : pair ring (lower w) (lower e) ≡ sum_below ring h (low_term ring w e)
    constant-sum =
        pair-terms (lower w) (lower e) h (low_term ring w e) (length-lower w h size_w)
        (λ x q. both _ _ _ _ (lower-entry w h x (halved (length w) h size_w) q) (lower-entry e h x (halved (length e) h size_e) q))

    linear-sum : pair ring (lower w) (rise ring e) ⊕ pair ring (rise ring w) (lower e) ≡ sum_below ring h (linear_term ring h w e)
    linear-sum =
        let first = λ (z : ℕ). get_or w z 𝟘 ⊗ (get_or e (h + z) 𝟘 ⊖ get_or e z 𝟘) in
        let second = λ (z : ℕ). (get_or w (h + z) 𝟘 ⊖ get_or w z 𝟘) ⊗ get_or e z 𝟘 in
        ap (λ t. t ⊕ pair ring (rise ring w) (lower e))
        (pair-terms (lower w) (rise ring e) h first (length-lower w h size_w)
        (λ x q. both _ _ _ _ (lower-entry w h x (halved (length w) h size_w) q) (rise-entry e h x size_e q)))
        ∙ ap (λ t. sum_below ring h first ⊕ t)
        (pair-terms (rise ring w) (lower e) h second (length-rise w h size_w)
        (λ x q. both _ _ _ _ (rise-entry w h x size_w q) (lower-entry e h x (halved (length e) h size_e) q)))
        ∙ sym (sum_below-sum ring laws h first second)

    pub quadratic-sum : pair ring (rise ring w) (rise ring e) ≡ sum_below ring h (rise_term ring h w e)
    quadratic-sum =
        pair-terms (rise ring w) (rise ring e) h (rise_term ring h w e) (length-rise w h size_w)
        (λ x q. both _ _ _ _ (rise-entry w h x size_w q) (rise-entry e h x size_e q))

    pair-sum : pair ring w e ≡ sum_below ring h (low_term ring w e) ⊕ sum_below ring h (high_term ring h w e)
    pair-sum = pair-terms w e (h + h) (low_term ring w e) size_w (λ x q. refl) ∙ sum_below-add ring laws h h (low_term ring w e)

  product_of_steps : (a s x t : R) → (a ⊕ s) ⊗ (x ⊕ t) ≡ (a ⊗ x) ⊕ (((a ⊗ t) ⊕ (s ⊗ x)) ⊕ (s ⊗ t))
  product_of_steps a s x t = simp (laws.product_sum, sum_product ring laws, laws.sum_assoc, sum_left_comm ring laws)

  step_back : (a b : R) → a ⊕ (b ⊖ a) ≡ b
  step_back a b =
      ap (λ t. a ⊕ t) (laws.minus_is b a ∙ laws.sum_comm b (neg a)) ∙ sym (laws.sum_assoc a (neg a) b)
      ∙ ap (λ t. t ⊕ b) (sum_negation ring laws a) ∙ laws.zero_sum b

  less_itself : (a b : R) → (a ⊕ b) ⊖ a ≡ b
  less_itself a b =
      laws.minus_is (a ⊕ b) a ∙ ap (λ t. t ⊕ neg a) (laws.sum_comm a b) ∙ laws.sum_assoc b a (neg a)
      ∙ ap (λ t. b ⊕ t) (sum_negation ring laws a) ∙ sum_zero ring laws b

  -- the product of the entries at 1 by the coefficients of that place
  high_term-is : (h : ℕ) (w e : List R) (z : ℕ) → high_term ring h w e z ≡ low_term ring w e z ⊕ (linear_term ring h w e z ⊕ rise_term ring h w e z)
  high_term-is h w e z =
      let a = get_or w z 𝟘 in
      let b = get_or w (h + z) 𝟘 in
      let x = get_or e z 𝟘 in
      let y = get_or e (h + z) 𝟘 in
      both b (a ⊕ (b ⊖ a)) y (x ⊕ (y ⊖ x)) (sym (step_back a b)) (sym (step_back x y)) ∙ product_of_steps a (b ⊖ a) x (y ⊖ x)

  high-sum : (h : ℕ) (w e : List R) → sum_below ring h (high_term ring h w e) ≡ sum_below ring h (low_term ring w e) ⊕ (sum_below ring h (linear_term ring h w e) ⊕ sum_below ring h (rise_term ring h w e))
  high-sum h w e =
      sum_below-same ring h (high_term ring h w e) (λ z. low_term ring w e z ⊕ (linear_term ring h w e z ⊕ rise_term ring h w e z)) (λ z q. high_term-is h w e z)
      ∙ sum_below-sum ring laws h (low_term ring w e) (λ z. linear_term ring h w e z ⊕ rise_term ring h w e z)
      ∙ ap (λ t. sum_below ring h (low_term ring w e) ⊕ t) (sum_below-sum ring laws h (linear_term ring h w e) (rise_term ring h w e))

  -- one more place
  pub sum-more : (n : ℕ) (f : ℕ → R) (old term new : R) → old ≡ sum_below ring n f → term ≡ f n → new ≡ old ⊕ term → new ≡ sum_below ring (n + 1) f
  sum-more n f old term new so_far at is = is ∙ ap (λ t. t ⊕ term) so_far ∙ ap (λ t. sum_below ring n f ⊕ t) at ∙ sym (sum_below-more ring laws n f)

  -- one more place of the sum at 0, from the entries read there
  pub low-more : (w e : List R) (n : ℕ) (a x old term new : R) → a ≡ get_or w n 𝟘 → x ≡ get_or e n 𝟘 → term ≡ a ⊗ x
      → old ≡ sum_below ring n (low_term ring w e) → new ≡ old ⊕ term → new ≡ sum_below ring (n + 1) (low_term ring w e)
  low-more w e n a x old term new at_a at_x product so_far is = sum-more n (low_term ring w e) old term new so_far (product ∙ both _ _ _ _ at_a at_x) is

  -- and of that of the products of steps
  pub rise-more : (h : ℕ) (w e : List R) (n : ℕ) (a b x y s t old term new : R) → a ≡ get_or w n 𝟘 → b ≡ get_or w (h + n) 𝟘 → x ≡ get_or e n 𝟘 → y ≡ get_or e (h + n) 𝟘
      → s ≡ b ⊖ a → t ≡ y ⊖ x → term ≡ s ⊗ t → old ≡ sum_below ring n (rise_term ring h w e) → new ≡ old ⊕ term → new ≡ sum_below ring (n + 1) (rise_term ring h w e)
  rise-more h w e n a b x y s t old term new at_a at_b at_x at_y at_s at_t product so_far is =
      let weight_rise = at_s ∙ ap (λ v. v ⊖ a) at_b ∙ ap (λ v. get_or w (h + n) 𝟘 ⊖ v) at_a in
      let rise = at_t ∙ ap (λ v. v ⊖ x) at_y ∙ ap (λ v. get_or e (h + n) 𝟘 ⊖ v) at_x in
      sum-more n (rise_term ring h w e) old term new so_far (product ∙ both _ _ _ _ weight_rise rise) is

  -- the round from the three sums that one pass takes
  pub round-sums : (w e : List R) (h : ℕ) (low high quadratic linear : R) → length w ≡ h + h → length e ≡ h + h
      → low ≡ sum_below ring h (low_term ring w e) → high ≡ sum_below ring h (high_term ring h w e) → quadratic ≡ sum_below ring h (rise_term ring h w e)
      → linear ≡ (high ⊖ low) ⊖ quadratic → low ∷ linear ∷ quadratic ∷ [] ≡ round ring w e
  round-sums w e h low high quadratic linear size_w size_e at_low at_high at_quadratic at_linear =
      let c = sum_below ring h (low_term ring w e) in
      let l = sum_below ring h (linear_term ring h w e) in
      let q = sum_below ring h (rise_term ring h w e) in
      let rest : high ⊖ low ≡ l ⊕ q = ap (λ t. t ⊖ low) (at_high ∙ high-sum h w e) ∙ ap (λ t. (c ⊕ (l ⊕ q)) ⊖ t) at_low ∙ less_itself c (l ⊕ q) in
      let middle : linear ≡ l = at_linear ∙ ap (λ t. t ⊖ quadratic) (rest ∙ laws.sum_comm l q) ∙ ap (λ t. (q ⊕ l) ⊖ t) at_quadratic ∙ less_itself q l in
      ap (λ t. t ∷ linear ∷ quadratic ∷ []) (at_low ∙ sym (constant-sum w e h size_w size_e))
      ∙ ap (λ t. pair ring (lower w) (lower e) ∷ t ∷ quadratic ∷ []) (middle ∙ sym (linear-sum w e h size_w size_e))
      ∙ ap (λ t. pair ring (lower w) (lower e) ∷ (pair ring (lower w) (rise ring e) ⊕ pair ring (rise ring w) (lower e)) ∷ t ∷ []) (at_quadratic ∙ sym (quadratic-sum w e h size_w size_e))

  -- and from the pair of the tables in place of the sum at 1
  pub round-of_claim : (w e : List R) (h : ℕ) (low quadratic claim linear : R) → length w ≡ h + h → length e ≡ h + h
      → low ≡ sum_below ring h (low_term ring w e) → quadratic ≡ sum_below ring h (rise_term ring h w e) → claim ≡ pair ring w e
      → linear ≡ ((claim ⊖ low) ⊖ low) ⊖ quadratic → low ∷ linear ∷ quadratic ∷ [] ≡ round ring w e
  round-of_claim w e h low quadratic claim linear size_w size_e at_low at_quadratic at_claim at_linear =
      let c = sum_below ring h (low_term ring w e) in
      let u = sum_below ring h (high_term ring h w e) in
      let high : claim ⊖ low ≡ u = ap (λ t. t ⊖ low) (at_claim ∙ pair-sum w e h size_w size_e) ∙ ap (λ t. (c ⊕ u) ⊖ t) at_low ∙ less_itself c u in
      round-sums w e h low (claim ⊖ low) quadratic linear size_w size_e at_low high at_quadratic at_linear

  univariate-three : (c l q x : R) → univariate ring (c ∷ l ∷ q ∷ []) x ≡ c ⊕ ((l ⊗ x) ⊕ (q ⊗ (x ⊗ x)))
  unfolding univariate sum_below
  univariate-three c l q x = simp (sum_zero ring laws, product_one ring laws)

  pub univariate-horner : (c l q x : R) → c ⊕ (x ⊗ (l ⊕ (x ⊗ q))) ≡ univariate ring (c ∷ l ∷ q ∷ []) x
  univariate-horner c l q x =
      ap (λ t. c ⊕ t) (laws.product_sum x l (x ⊗ q) ∙ ap (λ t. t ⊕ (x ⊗ (x ⊗ q))) (laws.product_comm x l) ∙ ap (λ t. (l ⊗ x) ⊕ t) (sym (laws.product_assoc x x q) ∙ laws.product_comm (x ⊗ x) q))
      ∙ sym (univariate-three c l q x)

  univariate-at_zero : (c l q : R) → univariate ring (c ∷ l ∷ q ∷ []) 𝟘 ≡ c
  univariate-at_zero c l q = univariate-three c l q 𝟘 ∙ simp (product_zero ring laws, sum_zero ring laws)

  univariate-at_one : (c l q : R) → univariate ring (c ∷ l ∷ q ∷ []) 𝟙 ≡ c ⊕ (l ⊕ q)
  univariate-at_one c l q = univariate-three c l q 𝟙 ∙ simp (product_one ring laws)

  pub adds_up-three : (c l q : R) → ring.sum (univariate ring (c ∷ l ∷ q ∷ []) 𝟘) (univariate ring (c ∷ l ∷ q ∷ []) 𝟙) ≡ ((c ⊕ c) ⊕ l) ⊕ q
  adds_up-three c l q =
      ap (λ t. t ⊕ univariate ring (c ∷ l ∷ q ∷ []) 𝟙) (univariate-at_zero c l q)
      ∙ ap (λ t. c ⊕ t) (univariate-at_one c l q)
      ∙ sym (laws.sum_assoc c c (l ⊕ q))
      ∙ sym (laws.sum_assoc (c ⊕ c) l q)

  -- coefficients whose second makes up for what the claim lacks
  pub adds_up-of_claim : (s c l q : R) → l ≡ ((s ⊖ c) ⊖ c) ⊖ q → AddsUpTo ring s (c ∷ l ∷ q ∷ [])
  adds_up-of_claim s c l q is =
      let rest = (s ⊖ c) ⊖ c in
      adds_up-three c l q
      ∙ laws.sum_assoc (c ⊕ c) l q
      ∙ ap (λ t. (c ⊕ c) ⊕ t) (laws.sum_comm l q ∙ ap (λ t. q ⊕ t) is ∙ step_back q rest)
      ∙ laws.sum_assoc c c rest
      ∙ ap (λ t. c ⊕ t) (step_back c (s ⊖ c))
      ∙ step_back c s

  -- the round of two tables adds up to their pair
  pub round-adds_up : (w e : List R) (h : ℕ) → length w ≡ h + h → length e ≡ h + h → AddsUpTo ring (pair ring w e) (round ring w e)
  round-adds_up w e h size_w size_e =
      let c = pair ring (lower w) (lower e) in
      let l = pair ring (lower w) (rise ring e) ⊕ pair ring (rise ring w) (lower e) in
      let q = pair ring (rise ring w) (rise ring e) in
      ap (λ t. t ⊕ univariate ring (round ring w e) 𝟙) (univariate-at_zero c l q)
      ∙ ap (λ t. c ⊕ t) (univariate-at_one c l q)
      ∙ ap (λ t. t ⊕ (c ⊕ (l ⊕ q))) (constant-sum w e h size_w size_e)
      ∙ ap (λ t. sum_below ring h (low_term ring w e) ⊕ (t ⊕ (l ⊕ q))) (constant-sum w e h size_w size_e)
      ∙ ap (λ t. sum_below ring h (low_term ring w e) ⊕ (sum_below ring h (low_term ring w e) ⊕ (t ⊕ q))) (linear-sum w e h size_w size_e)
      ∙ ap (λ t. sum_below ring h (low_term ring w e) ⊕ (sum_below ring h (low_term ring w e) ⊕ (sum_below ring h (linear_term ring h w e) ⊕ t))) (quadratic-sum w e h size_w size_e)
      ∙ ap (λ t. sum_below ring h (low_term ring w e) ⊕ t) (sym (high-sum h w e))
      ∙ sym (pair-sum w e h size_w size_e)

  product_along : (a s x t r : R) → (a ⊕ (r ⊗ s)) ⊗ (x ⊕ (r ⊗ t)) ≡ (a ⊗ x) ⊕ ((((a ⊗ t) ⊕ (s ⊗ x)) ⊗ r) ⊕ ((s ⊗ t) ⊗ (r ⊗ r)))
  product_along a s x t r = simp (laws.product_sum, sum_product ring laws, laws.sum_assoc, sum_left_comm ring laws, laws.product_assoc, laws.product_comm, product_left_comm ring laws)

  -- and its value at r is that of the tables folded at r
  pub univariate-round : (w e : List R) (h : ℕ) (r : R) → length w ≡ h + h → length e ≡ h + h → univariate ring (round ring w e) r ≡ pair ring (front ring (line ring r) w) (front ring (line ring r) e)
  univariate-round w e h r size_w size_e =
      let c = low_term ring w e in
      let l = linear_term ring h w e in
      let q = rise_term ring h w e in
      let half_w = halved (length w) h size_w in
      let half_e = halved (length e) h size_e in
      let at = λ (v : List R) (z : ℕ). ((𝟙 ⊖ r) ⊗ get_or v z 𝟘) ⊕ (r ⊗ get_or v (h + z) 𝟘) in
      let entry : (v : List R) (z : ℕ) → length v / 2 ≡ h → z < h → get_or (front ring (line ring r) v) z 𝟘 ≡ get_or v z 𝟘 ⊕ (r ⊗ (get_or v (h + z) 𝟘 ⊖ get_or v z 𝟘)) =
      λ v z is below. front_of_two-entry ring laws (𝟙 ⊖ r) r v z (omega (arith, is, below)) ∙ ap (λ k. ((𝟙 ⊖ r) ⊗ get_or v z 𝟘) ⊕ (r ⊗ get_or v (k + z) 𝟘)) is ∙ sym (line_by_step ring laws (get_or v z 𝟘) (get_or v (h + z) 𝟘) r) in
      univariate-three (pair ring (lower w) (lower e)) (pair ring (lower w) (rise ring e) ⊕ pair ring (rise ring w) (lower e)) (pair ring (rise ring w) (rise ring e)) r
      ∙ ap (λ t. t ⊕ (((pair ring (lower w) (rise ring e) ⊕ pair ring (rise ring w) (lower e)) ⊗ r) ⊕ (pair ring (rise ring w) (rise ring e) ⊗ (r ⊗ r)))) (constant-sum w e h size_w size_e)
      ∙ ap (λ t. sum_below ring h c ⊕ ((t ⊗ r) ⊕ (pair ring (rise ring w) (rise ring e) ⊗ (r ⊗ r)))) (linear-sum w e h size_w size_e)
      ∙ ap (λ t. sum_below ring h c ⊕ ((sum_below ring h l ⊗ r) ⊕ (t ⊗ (r ⊗ r)))) (quadratic-sum w e h size_w size_e)
      ∙ ap (λ t. sum_below ring h c ⊕ (t ⊕ (sum_below ring h q ⊗ (r ⊗ r)))) (sym (sum_below-product_right ring laws h r l))
      ∙ ap (λ t. sum_below ring h c ⊕ (sum_below ring h (λ z. l z ⊗ r) ⊕ t)) (sym (sum_below-product_right ring laws h (r ⊗ r) q))
      ∙ ap (λ t. sum_below ring h c ⊕ t) (sym (sum_below-sum ring laws h (λ z. l z ⊗ r) (λ z. q z ⊗ (r ⊗ r))))
      ∙ sym (sum_below-sum ring laws h c (λ z. (l z ⊗ r) ⊕ (q z ⊗ (r ⊗ r))))
      ∙ sym
      (pair-terms (front ring (line ring r) w) (front ring (line ring r) e) h (λ z. c z ⊕ ((l z ⊗ r) ⊕ (q z ⊗ (r ⊗ r)))) (length-front ring (line ring r) w h half_w)
      (λ z below.
      both _ _ _ _ (entry w z half_w below) (entry e z half_e below)
      ∙ product_along (get_or w z 𝟘) (get_or w (h + z) 𝟘 ⊖ get_or w z 𝟘) (get_or e z 𝟘) (get_or e (h + z) 𝟘 ⊖ get_or e z 𝟘) r))
