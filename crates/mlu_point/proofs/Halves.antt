-- The two halves of an output, each with the batch of the points without their first coordinates.
use Rattle.std.proofs.Common.{◌≡◌, ℕ, suc, ◌-◌, ◌*◌, ◌/◌, ◌^◌, ◌<◌, Bool, List, [], ◌∷◌, ◌++◌, map, length, get_or, take, drop, refl, sym, subst, ap, ◌∙◌, arith, length-take, length-drop}
use Rattle.std.proofs.lemmas.List.{get_or-take, get_or-map, length-map, drop-map}
use Rattle.mlu_ring.specs.Ring.{Ring, RingLaws}
use Rattle.mlu_ring.specs.Matrices.{AreRows, batch, left_by}
use Rattle.mlu_point.specs.Batches.{with_batch, upper_share, lower_share, AreShares}
use Rattle.mlu_point.proofs.Sizes.{rows-suc, split-sizes}
use Rattle.mlu_point.proofs.Batches.{left-batch}

-- an entry of a list that has one
some-entry : {C : Type 0} (vs : List C) → 0 < length vs → C
some-entry [] h = absurd (omega arith)
some-entry (c ∷ vs) h = c

module _ {C R : Type 0} (ring : Ring R) (laws : RingLaws ring) (image : C → R) where
  infixl 50 ◌⊖◌
  infixl 60 ◌⊗◌
  open ring use {product as ◌⊗◌, minus as ◌⊖◌, zero as 𝟘}

  within_row : (h i n w : ℕ) → n ≡ suc h * w → i < w → i < n
  within_row h i n w size below = omega (arith, size, below)

  -- what is read of the first row is read of the values
  pub first-row : (vs first : List C) (w s h i : ℕ) (c : C) → w ≡ s → first ≡ take (1 * w) vs → length vs ≡ suc h * s → i < s → image (get_or first i c) ≡ get_or (map image vs) i 𝟘
  first-row vs first w s h i c width is size below =
      let inside : i < length vs = within_row h i (length vs) s size below in
      let row : i < 1 * w = omega (arith, below, width) in
      ap image (ap (λ l. get_or l i c) is ∙ get_or-take (1 * w) vs i c row) ∙ sym (get_or-map image vs i c 𝟘 inside)

  module _ (adds : Bool) (vs first others : List C) (s low high out lower upper left right : List R) (w height : ℕ)
      (some : 0 < length s) (width : w ≡ length s) (whole : AreRows (length vs) w) (is : height ≡ length vs / w) (positive : height ≡ 0 → ⊥)
      (is_first : first ≡ take (1 * w) vs) (is_others : others ≡ drop (1 * w) vs) (size_low : length low ≡ length s) (size_high : length high ≡ length s)
      (lows : AreShares (lower_share ring image) low s first) (highs : AreShares (upper_share ring image) high s first)
      (size : length out ≡ 2 ^ (length vs / length s)) (is_lower : lower ≡ take (length out / 2) out) (is_upper : upper ≡ drop (length out / 2) out)
      (is_left : left ≡ with_batch ring adds lower (map image others) low) (is_right : right ≡ with_batch ring adds upper (map image others) high) where
    halves-parts : (c : C) (h : ℕ) → length vs / length s ≡ suc h → left ++ right ≡ with_batch ring adds out (map image vs) s
    halves-parts c h rows =
        let values = map image vs in
        let half = length out / 2 in
        let sum : length vs ≡ suc h * length s = subst (λ n. AreRows (length vs) n) width whole ∙ ap (λ q. q * length s) rows in
        let same : length (map image vs) ≡ length vs = length-map vs image in
        let whole_values : AreRows (length (map image vs)) (length s) = same ∙ subst (λ n. AreRows (length vs) n) width whole ∙ ap (λ n. n / length s * length s) (sym same) in
        let rows_values : length (map image vs) / length s ≡ suc h = ap (λ n. n / length s) same ∙ rows in
        let long : length out ≡ 2 ^ suc h = size ∙ ap (λ n. 2 ^ n) rows in
        let power : length out / 2 ≡ 2 ^ h = omega (arith, long) in
        let one : 1 * w ≡ length s = omega (arith, width) in
        let rest : map image others ≡ drop (length s) (map image vs) = ap (λ l. map image l) (is_others ∙ ap (λ n. drop n vs) one) ∙ sym (drop-map image (length s) vs) in
        let size_lower : length lower ≡ length out / 2 = ap length is_lower ∙ omega (arith, length-take (length out / 2) out, long) in
        let size_upper : length upper ≡ length out / 2 = ap length is_upper ∙ omega (arith, length-drop (length out / 2) out, long) in
        ap (λ l. l ++ right) (is_left ∙ ap (λ l. with_batch ring adds l (map image others) low) is_lower ∙ ap (λ n. left_by ring adds (take half out) (batch ring (map image others) low n)) (ap length (sym is_lower) ∙ size_lower) ∙ ap (λ l. left_by ring adds (take half out) (batch ring l low half)) rest)
        ∙ ap (λ l. left_by ring adds (take half out) (batch ring (drop (length s) values) low half) ++ l) (is_right ∙ ap (λ l. with_batch ring adds l (map image others) high) is_upper ∙ ap (λ n. left_by ring adds (drop half out) (batch ring (map image others) high n)) (ap length (sym is_upper) ∙ size_upper) ∙ ap (λ l. left_by ring adds (drop half out) (batch ring l high half)) rest)
        ∙ left-batch ring laws adds values s low high out (length s) half h some whole_values rows_values refl size_low size_high
        (λ i below. lows i 𝟘 c below ∙ ap (λ t. get_or s i 𝟘 ⊖ (get_or s i 𝟘 ⊗ t)) (first-row vs first w (length s) h i c width is_first sum below))
        (λ i below. highs i 𝟘 c below ∙ ap (λ t. get_or s i 𝟘 ⊗ t) (first-row vs first w (length s) h i c width is_first sum below))
        (long ∙ ap (λ n. 2 ^ n) (sym rows_values)) power

    -- the two halves that the recursion leaves
    pub halves-batch : left ++ right ≡ with_batch ring adds out (map image vs) s
    halves-batch =
        let sizes = split-sizes vs others out lower upper w (length s) height some width whole is positive is_others size is_lower is_upper in
        halves-parts (some-entry vs (omega (arith, sizes.0))) (length vs / length s - 1) (rows-suc (length vs) w (length s) height width is positive)
