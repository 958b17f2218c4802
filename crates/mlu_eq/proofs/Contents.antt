-- Tables in two halves: the rows of their entries, and what the kernels sum over them.
use Rattle.std.proofs.Common.{◌≡◌, ℕ, zero, suc, ◌+◌, ◌*◌, ◌/◌, ◌%◌, ◌^◌, ◌<◌, ◌≤◌, List, [], ◌∷◌, ◌++◌, refl, map, length, length-append, take, drop, get_or, sym, ap, ◌∙◌, arith}
use Rattle.std.proofs.Math.Nat.{mul-le-mul_right, div-lt_iff_lt-mul, mod-lt}
use Rattle.std.proofs.lemmas.Nat.{div-mul-add, mod-mul-add, div-add-mod', pow-add}
use Rattle.std.proofs.lemmas.List.{ext_get_or, get_or_default, get_or-take, get_or-drop, get_or-map, map-append, length-map, length-take, length-drop}
use Rattle.std.proofs.lemmas.List.FromFn.{get_or-map-range_with_len, length-map-range_with_len}
use Rattle.mlu_ring.specs.Ring.{Ring, RingLaws, IsRingMap}
use Rattle.mlu_ring.specs.Sums.{sum_below}
use Rattle.mlu_ring.specs.Tables.{weight, weights, pair}
use Rattle.mlu_ring.specs.Lanes.{logical}
use Rattle.mlu_ring.proofs.Joined.{weight-joined, length-weights, get_or-weights}
use Rattle.mlu_ring.proofs.Rows.{place-within}
use Rattle.mlu_ring.proofs.SumsBelow.{sum_below-same, sum_below-rows}
use Rattle.mlu_ring.proofs.Logical.{block-logical, logical-take_more}
use Rattle.mlu_ring.proofs.Pairs.{read-map}
use Rattle.mlu_kernel.specs.Kernels.{double_sum}
use Rattle.mlu_eq.specs.Split.{contents}
use Rattle.mlu_eq.proofs.Groups.{flat_map-runs}

-- the row and the column of an index
row_below : (x m n : ℕ) → x < m * n → x / n < m
row_below x m zero h = absurd (omega arith)
row_below x m (suc n) h = (div-lt_iff_lt-mul (omega arith)).1 h

column_below : (x m n : ℕ) → x < m * n → x % n < n
column_below x m zero h = absurd (omega arith)
column_below x m (suc n) h = mod-lt x (omega arith)

module _ {R : Type 0} (ring : Ring R) where
  infixl 60 ◌⊗◌
  open ring use {product as ◌⊗◌, zero as 𝟘, one as 𝟙}

  pub length-contents : (eq0 w : List R) → length (contents ring eq0 w) ≡ length eq0 * length w
  unfolding contents
  length-contents eq0 w = length-map-range_with_len (λ x. get_or eq0 (x / length w) 𝟘 ⊗ get_or w (x % length w) 𝟘) 0 (length eq0 * length w)

  pub get_or-contents : (eq0 w : List R) (x : ℕ) → x < length eq0 * length w → get_or (contents ring eq0 w) x 𝟘 ≡ get_or eq0 (x / length w) 𝟘 ⊗ get_or w (x % length w) 𝟘
  unfolding contents
  get_or-contents eq0 w x h = get_or-map-range_with_len (λ x. get_or eq0 (x / length w) 𝟘 ⊗ get_or w (x % length w) 𝟘) 0 (length eq0 * length w) x x 𝟘 h (omega arith)

  -- the entry at row y and column z
  pub get_or-contents_row : (eq0 w : List R) (y z : ℕ) → y < length eq0 → z < length w → get_or (contents ring eq0 w) (y * length w + z) 𝟘 ≡ get_or eq0 y 𝟘 ⊗ get_or w z 𝟘
  get_or-contents_row eq0 w y z h q =
      let n = length w in
      get_or-contents eq0 w (y * n + z) (place-within y (length eq0) z n h q)
      ∙ ap (λ k. get_or eq0 k 𝟘 ⊗ get_or w ((y * n + z) % n) 𝟘) (div-mul-add y n z q)
      ∙ ap (λ k. get_or eq0 y 𝟘 ⊗ get_or w k 𝟘) (mod-mul-add y n z q)

  -- each entry of the first half gives a row
  pub contents-rows : (eq0 w : List R) → contents ring eq0 w ≡ logical (λ x. map (ring.product x) w) eq0
  contents-rows eq0 w =
      let n = length w in
      let c = contents ring eq0 w in
      sym (flat_map-runs n (λ x. map (ring.product x) w) eq0 c (length-contents eq0 w)
      (λ k d h.
      let room : (k + 1) * n ≤ length eq0 * n = mul-le-mul_right n (let le : k + 1 ≤ length eq0 = omega arith in le) in
      let long : length (take n (drop (k * n) (contents ring eq0 w))) ≡ length w = simp (length-take, length-drop) (omega (arith, length-contents eq0 w, room)) in
      ext_get_or 𝟘 (map (ring.product (get_or eq0 k d)) w) (take n (drop (k * n) c)) (length-map w (ring.product (get_or eq0 k d)) ∙ sym long)
      (λ z q.
      let place : z < length w = omega (arith, length-map w (ring.product (get_or eq0 k d))) in
      get_or-map (ring.product (get_or eq0 k d)) w z 𝟘 𝟘 place
      ∙ ap (λ t. t ⊗ get_or w z 𝟘) (get_or_default eq0 k d 𝟘 h)
      ∙ sym (get_or-take n (drop (k * n) c) z 𝟘 place ∙ get_or-drop (k * n) c z 𝟘 ∙ get_or-contents_row eq0 w k z h place))))

  -- no first half, no rows
  pub contents-none : (w : List R) → contents ring [] w ≡ []
  contents-none w = contents-rows [] w

  -- one more entry of the first half
  pub contents-take_more : (eq0 w : List R) (j : ℕ) (x : R) → j < length eq0 → x ≡ get_or eq0 j x → contents ring (take (j + 1) eq0) w ≡ contents ring (take j eq0) w ++ map (ring.product x) w
  contents-take_more eq0 w j x h at_x =
      contents-rows (take (j + 1) eq0) w
      ∙ logical-take_more (λ y. map (ring.product y) w) (length w) (λ y. length-map w (ring.product y)) eq0 j x h
      ∙ ap (λ vs. vs ++ map (ring.product (get_or eq0 j x)) w) (sym (contents-rows (take j eq0) w))
      ∙ ap (λ y. contents ring (take j eq0) w ++ map (ring.product y) w) (sym at_x)

  -- the row of an entry of the first half
  pub block-contents : (eq0 w : List R) (j : ℕ) (x : R) → j < length eq0 → x ≡ get_or eq0 j x → take (length w) (drop (j * length w) (contents ring eq0 w)) ≡ map (ring.product x) w
  block-contents eq0 w j x h at_x =
      ap (λ c. take (length w) (drop (j * length w) c)) (contents-rows eq0 w)
      ∙ block-logical (λ y. map (ring.product y) w) (length w) (λ y. length-map w (ring.product y)) eq0 j x h
      ∙ ap (λ y. map (ring.product y) w) (sym at_x)

module _ {R : Type 0} (ring : Ring R) (laws : RingLaws ring) where
  infixl 60 ◌⊗◌
  open ring use {sum as ◌⊕◌, product as ◌⊗◌, zero as 𝟘, one as 𝟙}

  -- the entries, each times its weight, are the rows, each paired with the second half
  pub pair-contents : (eq0 w e : List R) → pair ring (contents ring eq0 w) e ≡ double_sum ring eq0 w e
  unfolding pair double_sum
  pair-contents eq0 w e =
      let n = length w in
      let m = length eq0 in
      let term = λ (x : ℕ). get_or (contents ring eq0 w) x 𝟘 ⊗ get_or e x 𝟘 in
      ap (λ k. sum_below ring k term) (length-contents ring eq0 w)
      ∙ sum_below-rows ring laws m n term
      ∙ sum_below-same ring m (λ y. sum_below ring n (λ z. term (y * n + z))) (λ y. sum_below ring n (λ z. (get_or eq0 y 𝟘 ⊗ get_or w z 𝟘) ⊗ get_or e (y * n + z) 𝟘))
      (λ y h. sum_below-same ring n (λ z. term (y * n + z)) (λ z. (get_or eq0 y 𝟘 ⊗ get_or w z 𝟘) ⊗ get_or e (y * n + z) 𝟘)
      (λ z q. ap (λ t. t ⊗ get_or e (y * n + z) 𝟘) (get_or-contents_row ring eq0 w y z h q)))

  -- a scale of the first half is one of the whole table
  pub contents-scale : (eq0 w : List R) (s : R) → contents ring (map (ring.product s) eq0) w ≡ map (ring.product s) (contents ring eq0 w)
  contents-scale eq0 w s =
      let n = length w in
      let c = contents ring (map (ring.product s) eq0) w in
      let size : length (contents ring (map (ring.product s) eq0) w) ≡ length eq0 * length w = length-contents ring (map (ring.product s) eq0) w ∙ ap (λ k. k * n) (length-map eq0 (ring.product s)) in
      let other : length (contents ring eq0 w) ≡ length eq0 * length w = length-contents ring eq0 w in
      ext_get_or 𝟘 c (map (ring.product s) (contents ring eq0 w)) (size ∙ sym (length-map (contents ring eq0 w) (ring.product s) ∙ other))
      (λ x h.
      let place : x < length eq0 * length w = omega (arith, size) in
      let row : x / length w < length eq0 = row_below x (length eq0) (length w) place in
      get_or-contents ring (map (ring.product s) eq0) w x (rw (length-map eq0 (ring.product s)) place)
      ∙ ap (λ t. t ⊗ get_or w (x % n) 𝟘) (get_or-map (ring.product s) eq0 (x / n) 𝟘 𝟘 row)
      ∙ laws.product_assoc s (get_or eq0 (x / n) 𝟘) (get_or w (x % n) 𝟘)
      ∙ ap (λ t. s ⊗ t) (sym (get_or-contents ring eq0 w x place))
      ∙ sym (get_or-map (ring.product s) (contents ring eq0 w) x 𝟘 𝟘 (omega arith)))

  -- the row of an entry of the first half, times a scale
  pub scaled_row : (eq0 w : List R) (s x : R) (j : ℕ) → j < length eq0 → x ≡ get_or eq0 j x → map (ring.product (s ⊗ x)) w ≡ take (length w) (drop (j * length w) (map (ring.product s) (contents ring eq0 w)))
  scaled_row eq0 w s x j h at_x =
      let n = length w in
      let place : j < length (map (ring.product s) eq0) = omega (arith, length-map eq0 (ring.product s)) in
      sym
      (ap (λ c. take n (drop (j * n) c)) (sym (contents-scale eq0 w s))
      ∙ block-contents ring (map (ring.product s) eq0) w j (s ⊗ x) place (read-map (ring.product s) eq0 j x at_x))

  -- the weights at a joined point, in two halves
  pub contents-weights : (a b : List R) (s : R) → contents ring (map (ring.product s) (weights ring a)) (weights ring b) ≡ map (ring.product s) (weights ring (a ++ b))
  contents-weights a b s =
      let n = 2 ^ length b in
      let first = map (ring.product s) (weights ring a) in
      let rows : length (map (ring.product s) (weights ring a)) ≡ 2 ^ length a = length-map (weights ring a) (ring.product s) ∙ length-weights ring a in
      let size : length (contents ring (map (ring.product s) (weights ring a)) (weights ring b)) ≡ 2 ^ length a * 2 ^ length b =
      length-contents ring first (weights ring b) ∙ ap (λ k. k * length (weights ring b)) rows ∙ ap (λ k. 2 ^ length a * k) (length-weights ring b) in
      let joined : 2 ^ length a * 2 ^ length b ≡ 2 ^ length (a ++ b) = sym (pow-add 2 (length a) (length b)) ∙ ap (λ k. 2 ^ k) (sym (length-append a b)) in
      let other : length (map (ring.product s) (weights ring (a ++ b))) ≡ 2 ^ length (a ++ b) = length-map (weights ring (a ++ b)) (ring.product s) ∙ length-weights ring (a ++ b) in
      ext_get_or 𝟘 (contents ring first (weights ring b)) (map (ring.product s) (weights ring (a ++ b))) (size ∙ joined ∙ sym other)
      (λ x h.
      let place : x < 2 ^ length a * 2 ^ length b = omega (arith, size) in
      let whole : x < 2 ^ length (a ++ b) = omega (arith, joined) in
      let row : x / 2 ^ length b < 2 ^ length a = row_below x (2 ^ length a) (2 ^ length b) place in
      let column : x % 2 ^ length b < 2 ^ length b = column_below x (2 ^ length a) (2 ^ length b) place in
      get_or-contents ring first (weights ring b) x (omega (arith, length-contents ring first (weights ring b)))
      ∙ ap (λ k. get_or first (x / k) 𝟘 ⊗ get_or (weights ring b) (x % k) 𝟘) (length-weights ring b)
      ∙ ap (λ t. t ⊗ get_or (weights ring b) (x % n) 𝟘) (get_or-map (ring.product s) (weights ring a) (x / n) 𝟘 𝟘 (omega (arith, length-weights ring a)) ∙ ap (ring.product s) (get_or-weights ring a (x / n) row))
      ∙ ap (λ t. (s ⊗ weight ring a (x / n)) ⊗ t) (get_or-weights ring b (x % n) column)
      ∙ laws.product_assoc s (weight ring a (x / n)) (weight ring b (x % n))
      ∙ ap (ring.product s) (sym (weight-joined ring laws a b (x / n) (x % n) column) ∙ ap (weight ring (a ++ b)) (div-add-mod' x n))
      ∙ sym (get_or-map (ring.product s) (weights ring (a ++ b)) x 𝟘 𝟘 (omega (arith, length-weights ring (a ++ b))) ∙ ap (ring.product s) (get_or-weights ring (a ++ b) x whole)))

module _ {B R : Type 0} (base : Ring B) (ring : Ring R) (f : B → R) (keeps : IsRingMap base ring f) where
  -- the images of a row
  row-images : (x : B) (w : List B) → map f (map (base.product x) w) ≡ map (ring.product (f x)) (map f w)
  row-images x [] = refl
  row-images x (y ∷ w) =
      let first = keeps.product x y in
      let rest = row-images x w in
      cc (first, rest)

  rows-images : (eq0 w : List B) → map f (logical (λ x. map (base.product x) w) eq0) ≡ logical (λ x. map (ring.product x) (map f w)) (map f eq0)
  rows-images [] w = refl
  rows-images (x ∷ eq0) w =
      map-append f (map (base.product x) w) (logical (λ x. map (base.product x) w) eq0)
      ∙ ap (λ t. t ++ map f (logical (λ x. map (base.product x) w) eq0)) (row-images x w)
      ∙ ap (λ t. map (ring.product (f x)) (map f w) ++ t) (rows-images eq0 w)

  -- the images of the entries are the entries of the images of the halves
  pub contents-images : (eq0 w : List B) → contents ring (map f eq0) (map f w) ≡ map f (contents base eq0 w)
  contents-images eq0 w =
      contents-rows ring (map f eq0) (map f w) ∙ sym (rows-images eq0 w) ∙ ap (map f) (sym (contents-rows base eq0 w))
