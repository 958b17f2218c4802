-- Batches by packed shares, which have the last variables as their lanes.
use Rattle.std.proofs.Common.{◌≡◌, ℕ, ◌+◌, ◌*◌, ◌/◌, ◌%◌, ◌^◌, ◌<◌, List, ◌++◌, map, length, get_or, sym, subst, ap, ◌∙◌, arith}
use Rattle.std.specs.Prelude.{replicate}
use Rattle.std.proofs.Math.Nat.{div-lt_iff_lt-mul, mod-lt, mul-div_cancel}
use Rattle.std.proofs.lemmas.Nat.{div-add-mod', pow-add, pow_pos}
use Rattle.std.proofs.lemmas.List.{get_or-map, get_or-replicate, length-map, map-append}
use Rattle.std.proofs.lemmas.List.FromFn.{get_or-map-range_with_len, length-map-range_with_len, fill_by_all}
use Rattle.std.specs.List.{range_with_len}
use Rattle.mlu_ring.specs.Ring.{Ring, RingLaws}
use Rattle.mlu_ring.specs.Lanes.{IsLaneByLane, logical}
use Rattle.mlu_ring.specs.Sums.{sum_below}
use Rattle.mlu_ring.specs.Tables.{weight, weights}
use Rattle.mlu_ring.specs.Matrices.{column, batch}
use Rattle.mlu_ring.proofs.SumsBelow.{sum_below-same}
use Rattle.mlu_ring.proofs.Joined.{weight-joined, length-weights, get_or-weights}
use Rattle.mlu_ring.proofs.Logical.{length-logical, get_or-logical}
use Rattle.mlu_ring.proofs.Doubling.{map_twice}
use Rattle.mlu_point.proofs.Columns.{length-column, column-append}
use Rattle.mlu_point.proofs.Images.{lane, lane_is_ring_map, sum_below-image, weight-image, column-image}

module _ {P V C : Type 0} (width : ℕ) (lanes : P → List V) (packed : Ring P) (ring : Ring V) (packed_laws : RingLaws packed) (laws : RingLaws ring)
    (long : (p : P) → length (lanes p) ≡ width) (each : IsLaneByLane width lanes packed ring)
    (image : C → V) (packed_image : C → P) (in_every_lane : (c : C) → lanes (packed_image c) ≡ replicate width (image c)) where
  infixl 60 ◌⊗◌
  open ring use {product as ◌⊗◌, zero as 𝟘}

  -- a packed share has in each lane the scalar times the weight of the lane at the last coordinates
  abbrev pub IsPacked : List P → List V → List C → Type 0
  IsPacked shares s last = (i : ℕ) → i < length s → lanes (get_or shares i packed.zero) ≡ map (λ t. get_or s i 𝟘 ⊗ t) (weights ring (column ring (map image last) (length s) i))

  -- one lane of the weight at the other coordinates
  lane-weight : (k : ℕ) (below : k < width) (middle : List C) (w i x : ℕ)
      → lane width lanes packed ring long each k below (weight packed (column packed (map packed_image middle) w i) x) ≡ weight ring (column ring (map image middle) w i) x
  lane-weight k below middle w i x =
      let at = lane width lanes packed ring long each k below in
      let keeps = lane_is_ring_map width lanes packed ring long each k below in
      weight-image packed packed_laws ring laws at keeps (column packed (map packed_image middle) w i) x
      ∙ ap (λ p. weight ring p x)
      (column-image packed packed_laws ring laws at keeps (map packed_image middle) w i
      ∙ ap (λ l. column ring l w i) (map_twice at packed_image image (λ c. ap (λ l. get_or l k 𝟘) (in_every_lane c) ∙ get_or-replicate width k (image c) 𝟘 below) middle))

  module _ (middle last : List C) (shares : List P) (s : List V) (m h : ℕ) (some : 0 < length s) (size_middle : length middle ≡ m * length s) (size_last : length last ≡ h * length s)
      (power : width ≡ 2 ^ h) (size_shares : length shares ≡ length s) (are : IsPacked shares s last) where
    rows_last : (i : ℕ) → length (column ring (map image last) (length s) i) ≡ h
    rows_last i = length-column ring (map image last) (length s) i ∙ ap (λ n. n / length s) (length-map last image ∙ size_last) ∙ mul-div_cancel h some

    lane-share : (i k : ℕ) → i < length s → k < width → get_or (lanes (get_or shares i packed.zero)) k 𝟘 ≡ get_or s i 𝟘 ⊗ weight ring (column ring (map image last) (length s) i) k
    lane-share i k q below =
        let p = column ring (map image last) (length s) i in
        let inside : k < 2 ^ length p = subst (λ n. k < 2 ^ n) (sym (rows_last i)) (subst (λ n. k < n) power below) in
        ap (λ l. get_or l k 𝟘) (are i q)
        ∙ get_or-map (λ t. get_or s i 𝟘 ⊗ t) (weights ring p) k 𝟘 𝟘 (subst (λ n. k < n) (sym (length-weights ring p)) inside)
        ∙ ap (λ t. get_or s i 𝟘 ⊗ t) (get_or-weights ring p k inside)

    -- what one point adds to lane k of group x
    one_point : (x k i : ℕ) (below : k < width) → i < length s
        → lane width lanes packed ring long each k below (packed.product (get_or shares i packed.zero) (weight packed (column packed (map packed_image middle) (length s) i) x))
        ≡ get_or s i 𝟘 ⊗ weight ring (column ring (map image (middle ++ last)) (length s) i) (x * width + k)
    one_point x k i below q =
        let w = length s in
        let a = column ring (map image middle) w i in
        let b = column ring (map image last) w i in
        let inside : k < 2 ^ length b = subst (λ n. k < 2 ^ n) (sym (rows_last i)) (subst (λ n. k < n) power below) in
        let wide : 2 ^ length b ≡ width = ap (λ n. 2 ^ n) (rows_last i) ∙ sym power in
        (lane_is_ring_map width lanes packed ring long each k below).product (get_or shares i packed.zero) (weight packed (column packed (map packed_image middle) w i) x)
        ∙ ap (λ t. t ⊗ get_or (lanes (weight packed (column packed (map packed_image middle) w i) x)) k 𝟘) (lane-share i k q below)
        ∙ ap (λ t. (get_or s i 𝟘 ⊗ weight ring b k) ⊗ t) (lane-weight k below middle w i x)
        ∙ laws.product_assoc (get_or s i 𝟘) (weight ring b k) (weight ring a x)
        ∙ ap (λ t. get_or s i 𝟘 ⊗ t) (laws.product_comm (weight ring b k) (weight ring a x) ∙ sym (weight-joined ring laws a b x k inside))
        ∙ ap (λ n. get_or s i 𝟘 ⊗ weight ring (a ++ b) (x * n + k)) wide
        ∙ ap (λ p. get_or s i 𝟘 ⊗ weight ring p (x * width + k))
        (sym (ap (λ l. column ring l w i) (map-append image middle last) ∙ column-append ring (map image middle) (map image last) w i m h q (length-map middle image ∙ size_middle) (length-map last image ∙ size_last)))

    abbrev entry : ℕ → V
    entry y = sum_below ring (length s) (λ i. get_or s i 𝟘 ⊗ weight ring (column ring (map image (middle ++ last)) (length s) i) y)

    abbrev group : ℕ → P
    group x = sum_below packed (length s) (λ i. packed.product (get_or shares i packed.zero) (weight packed (column packed (map packed_image middle) (length s) i) x))

    lane-group : (x k : ℕ) (below : k < width) → get_or (lanes (group x)) k 𝟘 ≡ entry (x * width + k)
    lane-group x k below =
        sum_below-image packed packed_laws ring laws (lane width lanes packed ring long each k below) (lane_is_ring_map width lanes packed ring long each k below) (length s)
        (λ i. packed.product (get_or shares i packed.zero) (weight packed (column packed (map packed_image middle) (length s) i) x))
        ∙ sum_below-same ring (length s) _ _ (λ i q. one_point x k i below q)

    abbrev groups : List P
    groups = map group (range_with_len 0 (2 ^ m))

    -- the lanes of the batch of the packed shares are the batch
    pub logical-batch : logical lanes (batch packed (map packed_image middle) shares (2 ^ m)) ≡ batch ring (map image (middle ++ last)) s (2 ^ (m + h))
    unfolding batch
    logical-batch =
        let positive : 0 < width = subst (λ n. 0 < n) (sym power) (pow_pos h) in
        let n : ℕ = 2 ^ m in
        let many : length groups ≡ 2 ^ m = length-map-range_with_len group 0 (2 ^ m) in
        let size : length (logical lanes groups) ≡ 2 ^ (m + h) = length-logical lanes width long groups ∙ ap (λ k. k * width) many ∙ ap (λ k. 2 ^ m * k) power ∙ sym (pow-add 2 m h) in
        ap (λ w. logical lanes (map (λ x. sum_below packed w (λ i. packed.product (get_or shares i packed.zero) (weight packed (column packed (map packed_image middle) w i) x))) (range_with_len 0 (2 ^ m)))) size_shares
        ∙ fill_by_all entry (logical lanes groups) (2 ^ (m + h)) 𝟘 size
        (λ y q.
        let all : y < 2 ^ m * width = subst (λ k. y < k) (pow-add 2 m h ∙ ap (λ k. 2 ^ m * k) (sym power)) q in
        let row : y / width < 2 ^ m = (div-lt_iff_lt-mul positive).1 all in
        let column_y : y % width < width = mod-lt y positive in
        let known : y / width * width + y % width ≡ y = div-add-mod' y width in
        let within : y / width < length groups = subst (λ k. y / width < k) (sym many) row in
        ap (λ k. get_or (logical lanes groups) k 𝟘) (sym known)
        ∙ get_or-logical lanes width long groups (y / width) (y % width) packed.zero 𝟘 within column_y
        ∙ ap (λ p. get_or (lanes p) (y % width) 𝟘) (get_or-map-range_with_len group 0 (2 ^ m) (y / width) (y / width) packed.zero row (omega arith))
        ∙ lane-group (y / width) (y % width) column_y
        ∙ ap entry known)
