-- Indexes with their bits reversed, and the table in that order.
use Rattle.std.proofs.Common.{◌≡◌, ℕ, zero, suc, ◌+◌, ◌-◌, ◌*◌, ◌/◌, ◌%◌, ◌^◌, ◌<◌, List, [], ◌∷◌, ◌++◌, map, length, refl, sym, ap, ◌∙◌, arith, zero-add, length-append}
use Rattle.std.proofs.Math.Nat.{div-div-eq-div-mul, div-one}
use Rattle.std.proofs.lemmas.List.{map-append}
use Rattle.std.proofs.lemmas.List.FromFn.{length-map-range_with_len}
use Rattle.std.specs.List.{range_with_len}
use Rattle.mlu_ring.specs.Ring.{Ring, RingLaws}
use Rattle.mlu_ring.specs.Sums.{product_below}
use Rattle.mlu_ring.specs.Tables.{bit, rev, weight, lsb}
use Rattle.mlu_ring.proofs.Bits.{bit-first_low, bit-first_high, bit-rest_low, bit-rest_high}
use Rattle.mlu_ring.proofs.Rings.{sum_product, product_negation, negation_product, product_left_comm, product_one}
use Rattle.mlu_ring.proofs.SumsBelow.{map_from}
use Rattle.mlu_ring.proofs.Doubling.{map_range-add, map_twice}
use Rattle.mlu_ring.proofs.Joined.{weight-joined}

doubled : (b n : ℕ) → b * 2 ^ suc n ≡ b * 2 ^ n * 2
doubled b n = let twice : 2 ^ suc n ≡ 2 * 2 ^ n = omega arith in rw twice (omega arith)

pub rev-zero : (x : ℕ) → rev 0 x ≡ 0
unfolding rev
rev-zero x = refl

pub rev-suc : (n x : ℕ) → rev (suc n) x ≡ x % 2 * 2 ^ n + rev n (x / 2)
unfolding rev
rev-suc n x = refl

below : (b n r : ℕ) → b < 2 → r < 2 ^ n → b * 2 ^ n + r < 2 ^ suc n
below zero n r h k = omega arith
below (suc zero) n r h k = omega arith
below (suc (suc b)) n r h k = absurd (omega arith)

pub rev-lt : (n x : ℕ) → rev n x < 2 ^ n
rev-lt zero x = rw (rev-zero x) (omega arith)
rev-lt (suc n) x = rw (rev-suc n x) (below (x % 2) n (rev n (x / 2)) (omega arith) (rev-lt n (x / 2)))

top_bit : (n b r : ℕ) → b < 2 → r < 2 ^ n → bit (suc n) 0 (b * 2 ^ n + r) ≡ b
top_bit n zero r h k =
    let none : 0 * 2 ^ n + r ≡ r = omega arith in
    rw none (bit-first_low n r k)
top_bit n (suc zero) r h k =
    let one : 1 * 2 ^ n + r ≡ 2 ^ n + r = omega arith in
    rw one (bit-first_high n r k)
top_bit n (suc (suc b)) r h k = absurd (omega arith)

other_bits : (n i b r : ℕ) → i < n → b < 2 → bit (suc n) (suc i) (b * 2 ^ n + r) ≡ bit n i r
other_bits n i zero r h k =
    let none : 0 * 2 ^ n + r ≡ r = omega arith in
    rw none (bit-rest_low n i r)
other_bits n i (suc zero) r h k =
    let one : 1 * 2 ^ n + r ≡ 2 ^ n + r = omega arith in
    rw one (bit-rest_high n i r h)
other_bits n i (suc (suc b)) r h k = absurd (omega arith)

last_bit : (n x : ℕ) → bit (suc n) (suc n - 1 - 0) x ≡ x % 2
unfolding bit
last_bit n x =
    let none : suc n - 1 - (suc n - 1 - 0) ≡ 0 = omega arith in
    rw none (ap (λ t. t % 2) (div-one x))

halved : (n i x : ℕ) → i < n → bit n (n - 1 - i) (x / 2) ≡ bit (suc n) (suc n - 1 - suc i) x
unfolding bit
halved n i x h =
    let fewer : n - 1 - (n - 1 - i) ≡ i = omega arith in
    let more : suc n - 1 - (suc n - 1 - suc i) ≡ suc i = omega arith in
    let twice : 2 ^ suc i ≡ 2 * 2 ^ i = omega arith in
    rw (fewer, more, twice) (ap (λ t. t % 2) (div-div-eq-div-mul x 2 (2 ^ i)))

-- the statement itself, which no proof cites: bit i of the index with its bits reversed is bit n - 1 - i of the index
pub bit-rev : (n i x : ℕ) → i < n → bit n i (rev n x) ≡ bit n (n - 1 - i) x
bit-rev zero i x h = absurd (omega arith)
bit-rev (suc n) zero x h =
    rw (rev-suc n x) (top_bit n (x % 2) (rev n (x / 2)) (omega arith) (rev-lt n (x / 2)) ∙ sym (last_bit n x))
bit-rev (suc n) (suc i) x h =
    rw (rev-suc n x)
    (other_bits n i (x % 2) (rev n (x / 2)) (omega arith) (omega arith)
    ∙ bit-rev n i (x / 2) (omega arith)
    ∙ halved n i x (omega arith))

-- an index of the lower half: its top bit becomes the lowest one
pub rev-low : (n x : ℕ) → x < 2 ^ n → rev (suc n) x ≡ rev n x * 2 + 0
rev-low zero x h = omega (arith, rev-suc 0 x, rev-zero x, rev-zero (x / 2))
rev-low (suc n) x h =
    let half : x / 2 < 2 ^ n = omega arith in
    omega (arith, rev-suc (suc n) x, rev-suc n x, rev-low n (x / 2) half, doubled (x % 2) n)

pub rev-high : (n x : ℕ) → x < 2 ^ n → rev (suc n) (2 ^ n + x) ≡ rev n x * 2 + 1
rev-high zero x h = let none : x ≡ 0 = omega arith in rw none (omega (arith, rev-suc 0 1, rev-zero 0))
rev-high (suc n) x h =
    let half : x / 2 < 2 ^ n = omega arith in
    let upper : (2 ^ suc n + x) / 2 ≡ 2 ^ n + x / 2 = omega arith in
    let even : (2 ^ suc n + x) % 2 ≡ x % 2 = omega arith in
    rw (rev-suc (suc n) (2 ^ suc n + x), upper, even) (omega (arith, rev-suc n x, rev-high n (x / 2) half, doubled (x % 2) n))

module _ {R : Type 0} (ring : Ring R) (laws : RingLaws ring) where
  infixl 50 ◌⊕◌
  infixl 50 ◌⊖◌
  infixl 60 ◌⊗◌
  open ring use {sum as ◌⊕◌, product as ◌⊗◌, minus as ◌⊖◌, zero as 𝟘, one as 𝟙, negation as neg}

  stays : (s c w : R) → (s ⊗ w) ⊖ ((s ⊗ w) ⊗ c) ≡ s ⊗ ((𝟙 ⊖ c) ⊗ w)
  stays s c w = simp (laws.minus_is, laws.product_sum, sum_product ring laws, laws.one_product, product_negation ring laws, negation_product ring laws, laws.product_assoc, laws.product_comm, product_left_comm ring laws)

  goes : (s c w : R) → (s ⊗ w) ⊗ c ≡ s ⊗ (c ⊗ w)
  goes s c w = simp (laws.product_assoc, laws.product_comm, product_left_comm ring laws)

  -- a scaled table, doubled by a coordinate, is the scaled table of its two shares
  pub table-shares : (s c : R) (table low whole : List R) → low ≡ map (λ w. s ⊗ w) table → whole ≡ map (λ w. (𝟙 ⊖ c) ⊗ w) table ++ map (λ w. c ⊗ w) table → map (λ w. w ⊖ (w ⊗ c)) low ++ map (λ w. w ⊗ c) low ≡ map (λ w. s ⊗ w) whole
  table-shares s c table low whole is shares =
      rw (is, shares, map-append)
      (ap (λ l. l ++ map (λ w. w ⊗ c) (map (λ w. s ⊗ w) table))
      (map_twice (λ w. w ⊖ (w ⊗ c)) (λ w. s ⊗ w) (λ w. s ⊗ ((𝟙 ⊖ c) ⊗ w)) (λ w. stays s c w) table
      ∙ sym (map_twice (λ w. s ⊗ w) (λ w. (𝟙 ⊖ c) ⊗ w) (λ w. s ⊗ ((𝟙 ⊖ c) ⊗ w)) (λ w. refl) table))
      ∙ ap (λ l. map (λ w. s ⊗ w) (map (λ w. (𝟙 ⊖ c) ⊗ w) table) ++ l)
      (map_twice (λ w. w ⊗ c) (λ w. s ⊗ w) (λ w. s ⊗ (c ⊗ w)) (λ w. goes s c w) table
      ∙ sym (map_twice (λ w. s ⊗ w) (λ w. c ⊗ w) (λ w. s ⊗ (c ⊗ w)) (λ w. refl) table)))

  weight-zero : (c : R) → weight ring (c ∷ []) 0 ≡ 𝟙 ⊖ c
  unfolding weight product_below bit
  weight-zero c = product_one ring laws (𝟙 ⊖ c)

  weight-one : (c : R) → weight ring (c ∷ []) 1 ≡ c
  unfolding weight product_below bit
  weight-one c = product_one ring laws c

  pub lsb-none : lsb ring [] ≡ 𝟙 ∷ []
  unfolding lsb weight product_below
  lsb-none = refl

  pub length-lsb : (p : List R) → length (lsb ring p) ≡ 2 ^ length p
  unfolding lsb
  length-lsb p = length-map-range_with_len (λ x. weight ring p (rev (length p) x)) 0 (2 ^ length p)

  -- a coordinate that is appended reads the new top bit
  lsb-low : (p : List R) (c : R) (x : ℕ) → x < 2 ^ length p → weight ring (p ++ c ∷ []) (rev (suc (length p)) x) ≡ (𝟙 ⊖ c) ⊗ weight ring p (rev (length p) x)
  lsb-low p c x h =
      ap (λ y. weight ring (p ++ c ∷ []) y) (rev-low (length p) x h)
      ∙ weight-joined ring laws p (c ∷ []) (rev (length p) x) 0 (omega arith)
      ∙ ap (λ t. weight ring p (rev (length p) x) ⊗ t) (weight-zero c)
      ∙ laws.product_comm _ _

  lsb-high : (p : List R) (c : R) (x : ℕ) → x < 2 ^ length p → weight ring (p ++ c ∷ []) (rev (suc (length p)) (2 ^ length p + x)) ≡ c ⊗ weight ring p (rev (length p) x)
  lsb-high p c x h =
      ap (λ y. weight ring (p ++ c ∷ []) y) (rev-high (length p) x h)
      ∙ weight-joined ring laws p (c ∷ []) (rev (length p) x) 1 (omega arith)
      ∙ ap (λ t. weight ring p (rev (length p) x) ⊗ t) (weight-one c)
      ∙ laws.product_comm _ _

  pub lsb-last : (p : List R) (c : R) → lsb ring (p ++ c ∷ []) ≡ map (λ w. (𝟙 ⊖ c) ⊗ w) (lsb ring p) ++ map (λ w. c ⊗ w) (lsb ring p)
  unfolding lsb
  lsb-last p c =
      let n = length p in
      let m = 2 ^ length p in
      let f = λ (x : ℕ). weight ring (p ++ c ∷ []) (rev (suc n) x) in
      let g = λ (x : ℕ). weight ring p (rev n x) in
      let longer : length (p ++ c ∷ []) ≡ suc (length p) = omega (arith, length-append p (c ∷ [])) in
      let twice : 2 ^ suc (length p) ≡ 2 ^ length p + 2 ^ length p = omega arith in
      let low : map f (range_with_len 0 m) ≡ map (λ w. (𝟙 ⊖ c) ⊗ w) (map g (range_with_len 0 m)) =
      map_from 0 0 m f (λ x. (𝟙 ⊖ c) ⊗ g x) (λ k h. simp zero-add (lsb-low p c k h))
      ∙ sym (map_twice (λ w. (𝟙 ⊖ c) ⊗ w) g (λ x. (𝟙 ⊖ c) ⊗ g x) (λ x. refl) (range_with_len 0 m)) in
      let high : map f (range_with_len (0 + m) m) ≡ map (λ w. c ⊗ w) (map g (range_with_len 0 m)) =
      map_from (0 + m) 0 m f (λ x. c ⊗ g x) (λ k h. simp zero-add (lsb-high p c k h))
      ∙ sym (map_twice (λ w. c ⊗ w) g (λ x. c ⊗ g x) (λ x. refl) (range_with_len 0 m)) in
      ap (λ k. map (λ x. weight ring (p ++ c ∷ []) (rev k x)) (range_with_len 0 (2 ^ k))) longer
      ∙ ap (λ k. map f (range_with_len 0 k)) twice
      ∙ map_range-add f 0 m m
      ∙ ap (λ l. l ++ map f (range_with_len (0 + m) m)) low
      ∙ ap (λ l. map (λ w. (𝟙 ⊖ c) ⊗ w) (map g (range_with_len 0 m)) ++ l) high
