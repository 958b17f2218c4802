-- A chunk of an output: its two halves by packed shares, and what these make of it.
use Rattle.std.proofs.Common.{◌≡◌, ℕ, ◌+◌, ◌-◌, ◌*◌, ◌/◌, ◌^◌, ◌<◌, ◌≤◌, Bool, false, List, ◌++◌, map, length, take, drop, refl, sym, subst, ap, ◌∙◌, arith, length-take, length-drop}
use Rattle.std.specs.Prelude.{replicate}
use Rattle.std.proofs.Math.Nat.{mul-div_cancel}
use Rattle.std.proofs.lemmas.Grind.{flat_map-append}
use Rattle.std.proofs.lemmas.List.{take-append-drop, append-nil, length-map}
use Rattle.std.proofs.lemmas.Simd.{length-replicate}
use Rattle.mlu_ring.specs.Ring.{Ring, RingLaws}
use Rattle.mlu_ring.specs.Lanes.{IsLaneByLane, logical}
use Rattle.mlu_ring.specs.Sums.{sum_of}
use Rattle.mlu_ring.specs.Matrices.{AreRows, batch, left_by}
use Rattle.mlu_ring.proofs.Logical.{length-logical}
use Rattle.mlu_point.specs.Batches.{upper_share, lower_share, AreShares}
use Rattle.mlu_point.proofs.Sizes.{group-sizes}
use Rattle.mlu_point.proofs.Outputs.{left-append}
use Rattle.mlu_point.proofs.Batches.{length-batch, batch-none}
use Rattle.mlu_point.proofs.Halves.{halves-batch}
use Rattle.mlu_point.proofs.PackedShares.{IsPacked, logical-batch}

module _ {P V C : Type 0} (width : ℕ) (lanes : P → List V) (packed : Ring P) (ring : Ring V) (packed_laws : RingLaws packed) (long : (p : P) → length (lanes p) ≡ width) (image : C → P) where
  -- the two halves that the recursion over packed shares leaves
  pub halves-groups : (adds : Bool) (vs first others : List C) (s low high : List P) (out lower upper left right : List V) (w height : ℕ)
      → 0 < length s → w ≡ length s → AreRows (length vs) w → height ≡ length vs / w → (height ≡ 0 → ⊥)
      → first ≡ take (1 * w) vs → others ≡ drop (1 * w) vs → length low ≡ length s → length high ≡ length s
      → AreShares (lower_share packed image) low s first → AreShares (upper_share packed image) high s first
      → length out ≡ 2 ^ (length vs / length s) * width → lower ≡ take (length out / 2) out → upper ≡ drop (length out / 2) out
      → left ≡ left_by ring adds lower (logical lanes (batch packed (map image others) low (2 ^ (length others / length low))))
      → right ≡ left_by ring adds upper (logical lanes (batch packed (map image others) high (2 ^ (length others / length high))))
      → left ++ right ≡ left_by ring adds out (logical lanes (batch packed (map image vs) s (2 ^ (length vs / length s))))
  halves-groups adds vs first others s low high out lower upper left right w height some width_is whole is positive is_first is_others size_low size_high lows highs size is_lower is_upper is_left is_right =
      let sizes = group-sizes vs others out lower upper w (length s) height width some width_is whole is positive is_others size is_lower is_upper in
      let n = 2 ^ (length vs / length s) in
      let p = 2 ^ (length others / length s) in
      let a = batch packed (map image others) low p in
      let b = batch packed (map image others) high p in
      let places : List P = replicate n packed.zero in
      let many : length places ≡ n = length-replicate n packed.zero in
      let twice : n ≡ p + p = sizes.4 in
      let front_size : length (take (length places / 2) places) ≡ p = omega (arith, length-take (length places / 2) places, many, twice) in
      let back_size : length (drop (length places / 2) places) ≡ p = omega (arith, length-drop (length places / 2) places, many, twice) in
      let joined : a ++ b ≡ batch packed (map image vs) s n =
      ap (λ k. batch packed (map image others) low k ++ b) (sym front_size)
      ∙ ap (λ k. batch packed (map image others) low (length (take (length places / 2) places)) ++ batch packed (map image others) high k) (sym back_size)
      ∙ halves-batch packed packed_laws image false vs first others s low high places (take (length places / 2) places) (drop (length places / 2) places) _ _ w height
      some width_is whole is positive is_first is_others size_low size_high lows highs many refl refl refl refl
      ∙ ap (λ k. batch packed (map image vs) s k) many in
      let half = length out / 2 in
      let half_is : p * width ≡ half = omega (arith, size, ap (λ k. k * width) twice) in
      let size_a : length (logical lanes a) ≡ half = length-logical lanes width long a ∙ ap (λ k. k * width) (length-batch packed (map image others) low p) ∙ half_is in
      let fits : half ≤ length out = omega arith in
      ap (λ l. l ++ right) (is_left ∙ ap (λ l. left_by ring adds l (logical lanes (batch packed (map image others) low (2 ^ (length others / length low))))) is_lower ∙ ap (λ k. left_by ring adds (take half out) (logical lanes (batch packed (map image others) low (2 ^ (length others / k))))) size_low)
      ∙ ap (λ l. left_by ring adds (take half out) (logical lanes a) ++ l) (is_right ∙ ap (λ l. left_by ring adds l (logical lanes (batch packed (map image others) high (2 ^ (length others / length high))))) is_upper ∙ ap (λ k. left_by ring adds (drop half out) (logical lanes (batch packed (map image others) high (2 ^ (length others / k))))) size_high)
      ∙ left-append ring adds half out (logical lanes a) (logical lanes b) size_a fits
      ∙ ap (λ l. left_by ring adds out l) (sym (flat_map-append lanes a b) ∙ ap (logical lanes) joined)

  -- with no variable left a group has the sum of the shares
  pub group-none : (adds : Bool) (vs : List C) (s : List P) (out after : List V) (t : P) (w height : ℕ) → w ≡ length s → height ≡ length vs / w → height ≡ 0 → t ≡ sum_of packed s → after ≡ left_by ring adds out (lanes t)
      → after ≡ left_by ring adds out (logical lanes (batch packed (map image vs) s (2 ^ (length vs / length s))))
  group-none adds vs s out after t w height width_is is none sum made =
      let rows : length vs / length s ≡ 0 = ap (λ n. length vs / n) (sym width_is) ∙ sym is ∙ none in
      let rows_values : length (map image vs) / length s ≡ 0 = ap (λ n. n / length s) (length-map vs image) ∙ rows in
      made
      ∙ ap (λ l. left_by ring adds out l)
      (ap lanes sum
      ∙ sym (append-nil (lanes (sum_of packed s)))
      ∙ ap (logical lanes) (sym (batch-none packed packed_laws (map image vs) s rows_values))
      ∙ ap (λ n. logical lanes (batch packed (map image vs) s (2 ^ n))) (sym rows))

-- the rows that split the packed shares, and those that are their lanes
pub chunk-sizes : {C : Type 0} (vs middle last : List C) (w s height rows log : ℕ) → 0 < s → w ≡ s → AreRows (length vs) w → height ≡ length vs / w → log ≤ length vs / s → rows ≡ height - log
    → middle ≡ take (rows * w) vs → last ≡ drop (rows * w) vs → (length middle ≡ rows * s) × (length last ≡ log * s) × (rows + log ≡ length vs / s) × (length middle / s ≡ rows) × (length last / s ≡ log)
chunk-sizes vs middle last w s height rows log some width whole is within is_rows is_middle is_last =
    let quotient : height ≡ length vs / s = is ∙ ap (λ n. length vs / n) width in
    let sum : rows + log ≡ length vs / s = omega (arith, is_rows, quotient, within) in
    let all : length vs ≡ (rows + log) * s = subst (λ n. AreRows (length vs) n) width whole ∙ ap (λ k. k * s) (sym sum) in
    let size : length vs ≡ rows * s + log * s = omega (arith, all) in
    let cut : rows * w ≡ rows * s = ap (λ n. rows * n) width in
    let size_middle : length middle ≡ rows * s = ap length is_middle ∙ omega (arith, length-take (rows * w) vs, cut, size) in
    let size_last : length last ≡ log * s = ap length is_last ∙ omega (arith, length-drop (rows * w) vs, cut, size) in
    (size_middle, size_last, sum, ap (λ n. n / s) size_middle ∙ mul-div_cancel rows some, ap (λ n. n / s) size_last ∙ mul-div_cancel log some)

module _ {P V C : Type 0} (width : ℕ) (lanes : P → List V) (packed : Ring P) (ring : Ring V) (packed_laws : RingLaws packed) (laws : RingLaws ring)
    (long : (p : P) → length (lanes p) ≡ width) (each : IsLaneByLane width lanes packed ring)
    (image : C → V) (packed_image : C → P) (in_every_lane : (c : C) → lanes (packed_image c) ≡ replicate width (image c)) where
  -- what the packed shares leave in an output
  pub chunk-batch : (adds : Bool) (vs middle last : List C) (shares : List P) (s out after : List V) (w height rows log : ℕ)
      → 0 < length s → w ≡ length s → AreRows (length vs) w → height ≡ length vs / w → log ≤ length vs / length s → rows ≡ height - log
      → middle ≡ take (rows * w) vs → last ≡ drop (rows * w) vs → length shares ≡ length s → width ≡ 2 ^ log
      → IsPacked width lanes packed ring packed_laws laws long each image packed_image in_every_lane shares s last → length out ≡ 2 ^ (length vs / length s)
      → after ≡ left_by ring adds out (logical lanes (batch packed (map packed_image middle) shares (2 ^ (length middle / length shares))))
      → after ≡ left_by ring adds out (batch ring (map image vs) s (length out))
  chunk-batch adds vs middle last shares s out after w height rows log some width_is whole is within is_rows is_middle is_last size_shares power are size made =
      let sizes = chunk-sizes vs middle last w (length s) height rows log some width_is whole is within is_rows is_middle is_last in
      let many : length middle / length shares ≡ rows = ap (λ n. length middle / n) size_shares ∙ sizes.3 in
      let joined : middle ++ last ≡ vs = ap (λ l. l ++ last) is_middle ∙ ap (λ l. take (rows * w) vs ++ l) is_last ∙ take-append-drop (rows * w) vs in
      made
      ∙ ap (λ l. left_by ring adds out l)
      (ap (λ n. logical lanes (batch packed (map packed_image middle) shares (2 ^ n))) many
      ∙ logical-batch width lanes packed ring packed_laws laws long each image packed_image in_every_lane middle last shares s rows log some sizes.0 sizes.1 power size_shares are
      ∙ ap (λ l. batch ring (map image l) s (2 ^ (rows + log))) joined
      ∙ ap (λ n. batch ring (map image vs) s n) (ap (λ n. 2 ^ n) sizes.2 ∙ sym size))
