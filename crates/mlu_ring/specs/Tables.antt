-- Points, indexes, weights and the value of a table at a point.
use Rattle.std.specs.Prelude.{◌≡◌, ℕ, zero, suc, [], ◌∷◌, ◌+◌, ◌-◌, ◌*◌, ◌/◌, ◌%◌, ◌^◌, ◌<◌, List, ◌++◌, map, length, replicate, slice_index_or, slice_set, if◌then◌else◌, ◌==◌}
use Rattle.std.specs.List.{range_with_len}
use Rattle.mlu_ring.specs.Ring.{Ring}
use Rattle.mlu_ring.specs.Sums.{product_of, sum_below, product_below}

-- bit i of index x in n variables: coordinate 0 reads the top bit
unfoldable pub bit : ℕ → ℕ → ℕ → ℕ
bit n i x = x / 2 ^ (n - 1 - i) % 2

-- the point with one where the bit of x is 1, and zero elsewhere
unfoldable pub vertex : {R : Type 0} → Ring R → ℕ → ℕ → List R
vertex ring n x = map (λ i. if bit n i x == 1 then ring.one else ring.zero) (range_with_len 0 n)

-- what the coordinate c gives to a weight at the bit b
abbrev pub factor : {R : Type 0} → Ring R → ℕ → R → R
factor ring b c = if b == 1 then c else ring.minus ring.one c

-- the weight of the vertex x at the point p
unfoldable pub weight : {R : Type 0} → Ring R → List R → ℕ → R
weight ring p x = product_below ring (length p) (λ i. factor ring (bit (length p) i x) (slice_index_or p i ring.zero))

-- the weights of all vertices, in the order of their indexes
unfoldable pub weights : {R : Type 0} → Ring R → List R → List R
weights ring p = map (weight ring p) (range_with_len 0 (2 ^ length p))

-- the index of n bits whose bit i is bit n - 1 - i of x
unfoldable pub rev : ℕ → ℕ → ℕ
rev zero x = 0
rev (suc n) x = x % 2 * 2 ^ n + rev n (x / 2)

-- the weights in the order of the reversed index bits: coordinate 0 reads the lowest bit
unfoldable pub lsb : {R : Type 0} → Ring R → List R → List R
lsb ring p = map (λ x. weight ring p (rev (length p) x)) (range_with_len 0 (2 ^ length p))

-- the sum of each entry times its weight
unfoldable pub value : {R : Type 0} → Ring R → List R → List R → R
value ring e p = sum_below ring (2 ^ length p) (λ x. ring.product (weight ring p x) (slice_index_or e x ring.zero))

-- putting c at any place gives (1 - c) times the value with 0 there plus c times the value with 1 there
abbrev pub IsAffineInEach : {R : Type 0} → Ring R → ℕ → (List R → R) → Type 0
IsAffineInEach {R} ring n f = (p : List R) (i : ℕ) (c : R) → length p ≡ n → i < n → f (slice_set p i c) ≡ ring.sum (ring.product (ring.minus ring.one c) (f (slice_set p i ring.zero))) (ring.product c (f (slice_set p i ring.one)))

-- at the vertex of each index x in n variables the function has entry x, or zero past the end
abbrev pub HasAtVertices : {R : Type 0} → Ring R → ℕ → (List R → R) → List R → Type 0
HasAtVertices ring n f e = (x : ℕ) → x < 2 ^ n → f (vertex ring n x) ≡ slice_index_or e x ring.zero

-- once it has the entries at the vertices, the function is the value of the table at each point of n coordinates
abbrev pub VerticesDetermine : {R : Type 0} → Ring R → ℕ → (List R → R) → List R → Type 0
VerticesDetermine {R} ring n f e = HasAtVertices ring n f e → (p : List R) → length p ≡ n → f p ≡ value ring e p

-- the entries with so many zeros after them
abbrev pub with_zeros : {R : Type 0} → Ring R → ℕ → List R → List R
with_zeros ring zeros e = e ++ replicate zeros ring.zero

-- the value at the last coordinates, times one minus each coordinate before them
abbrev pub padded_value : {R : Type 0} → Ring R → List R → List R → List R → R
padded_value ring e first rest = ring.product (product_of ring (map (ring.minus ring.one) first)) (value ring e rest)

-- the sum of the products of two lists, place by place
unfoldable pub pair : {R : Type 0} → Ring R → List R → List R → R
pair ring w e = sum_below ring (length w) (λ x. ring.product (slice_index_or w x ring.zero) (slice_index_or e x ring.zero))

-- the weights of one variable at r
abbrev pub line : {R : Type 0} → Ring R → R → List R
line ring r = ring.minus ring.one r ∷ r ∷ []

-- entry z is the sum over y of w[y] times e[y * s + z]
unfoldable pub front : {R : Type 0} → Ring R → List R → List R → List R
front ring w e =
    let s = length e / length w in
    map (λ z. sum_below ring (length w) (λ y. ring.product (slice_index_or w y ring.zero) (slice_index_or e (y * s + z) ring.zero))) (range_with_len 0 s)

-- entry y is the sum over z of w[z] times e[y * t + z]
unfoldable pub back : {R : Type 0} → Ring R → List R → List R → List R
back ring w e =
    let t = length w in
    map (λ y. sum_below ring t (λ z. ring.product (slice_index_or w z ring.zero) (slice_index_or e (y * t + z) ring.zero))) (range_with_len 0 (length e / t))

-- the table with its first variable at r
abbrev pub first_folded : {R : Type 0} → Ring R → R → List R → List R
first_folded ring r e = front ring (line ring r) e

-- the table with its last variable at r
abbrev pub last_folded : {R : Type 0} → Ring R → R → List R → List R
last_folded ring r e = back ring (line ring r) e

-- the element to the power k
abbrev pub power : {R : Type 0} → Ring R → R → ℕ → R
power ring y zero = ring.one
power ring y (suc k) = ring.product y (power ring y k)

-- y to the power 2 ^ (n - 1 - i) at coordinate i
unfoldable pub powers : {R : Type 0} → Ring R → R → ℕ → List R
powers ring y n = map (λ i. power ring y (2 ^ (n - 1 - i))) (range_with_len 0 n)

-- the polynomial with the entries as coefficients, at y
unfoldable pub univariate : {R : Type 0} → Ring R → List R → R → R
univariate ring e y = sum_below ring (length e) (λ i. ring.product (slice_index_or e i ring.zero) (power ring y i))

-- the table folded at the coordinates in order: to the lower half comes the coordinate times the upper half
abbrev pub monomial_folds : {R : Type 0} → Ring R → List R → List R → List R
monomial_folds ring e [] = e
monomial_folds ring e (c ∷ cs) = monomial_folds ring (front ring (ring.one ∷ c ∷ []) e) cs
