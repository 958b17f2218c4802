-- What a loop leaves that writes a function of two lists over the first, block by block.
use Rattle.std.proofs.Common.{◌≡◌, ℕ, zero, suc, ◌+◌, ◌-◌, ◌*◌, ◌<◌, ◌≤◌, List, [], ◌∷◌, ◌++◌, map, length, take, drop, replicate, ap, ◌∙◌, arith, refl, sym}
use Rattle.std.specs.Simd.Lanes.{zip2}
use Rattle.std.proofs.lemmas.List.{drop-drop, length-map, length-take, take-append-drop}
use Rattle.mlu_ring.specs.Ring.{Ring, RingLaws}
use Rattle.mlu_ring.proofs.Rings.{map-one, line_by_step}
use Rattle.mlu_ring.proofs.Zips.{zip2-append, zip_more}
use Rattle.mlu_eq.specs.Combine.{combined, interpolated}
use Rattle.mlu_ring.proofs.Rows.{row_end}

module _ {V W : Type 0} (f : V → W → V) where
  -- n more places of two lists, zipped over the first
  pub zip_block : (xs : List V) (ys : List W) (out : List V) (m n : ℕ) → m + n ≤ length xs → length xs ≡ length ys → out ≡ zip2 f (take m xs) (take m ys) ++ drop m xs
      → take m out ++ (zip2 f (take n (drop m out)) (take n (drop m ys)) ++ drop (m + n) out) ≡ zip2 f (take (m + n) xs) (take (m + n) ys) ++ drop (m + n) xs
  zip_block xs ys out m n h e is =
      ap (λ vs. take m vs ++ (zip2 f (take n (drop m vs)) (take n (drop m ys)) ++ drop (m + n) vs)) is ∙ zip_more f xs ys m n h e

  -- block i of n places, written over what a loop left
  pub zip_row_step : (xs : List V) (ys : List W) (out written : List V) (i m n start v : ℕ) → i < m → length xs ≡ m * n → length xs ≡ length ys → start ≡ i * n → v ≡ n
      → out ≡ zip2 f (take (i * n) xs) (take (i * n) ys) ++ drop (i * n) xs
      → written ≡ zip2 f (take n (drop (i * n) out)) (take n (drop (i * n) ys))
      → take start out ++ (written ++ drop v (drop start out)) ≡ zip2 f (take ((i + 1) * n) xs) (take ((i + 1) * n) ys) ++ drop ((i + 1) * n) xs
  zip_row_step xs ys out written i m n start v h size e begins places is at =
      let next : i * n + n ≡ (i + 1) * n = omega arith in
      let room = row_end i m n (length xs) h size in
      ap (λ k. take start out ++ (written ++ drop k (drop start out))) places
      ∙ ap (λ k. take k out ++ (written ++ drop n (drop k out))) begins
      ∙ ap (λ vs. take (i * n) out ++ (vs ++ drop n (drop (i * n) out))) at
      ∙ ap (λ vs. take (i * n) out ++ (zip2 f (take n (drop (i * n) out)) (take n (drop (i * n) ys)) ++ vs)) (drop-drop n (i * n) out)
      ∙ zip_block xs ys out (i * n) n room e is
      ∙ ap (λ k. zip2 f (take k xs) (take k ys) ++ drop k xs) next

  -- the loop counts its places as v
  pub zip_block_step : (xs : List V) (ys : List W) (out written : List V) (i m v n : ℕ) → i < m → length xs ≡ m * n → length xs ≡ length ys → v ≡ n
      → out ≡ zip2 f (take (i * n) xs) (take (i * n) ys) ++ drop (i * n) xs
      → written ≡ zip2 f (take n (drop (i * n) out)) (take n (drop (i * n) ys))
      → take (i * v) out ++ (written ++ drop (i * v + v - i * v) (drop (i * v) out)) ≡ zip2 f (take ((i + 1) * n) xs) (take ((i + 1) * n) ys) ++ drop ((i + 1) * n) xs
  zip_block_step xs ys out written i m v n h size e same is at =
      let many : i * v + v - i * v ≡ v = omega arith in
      zip_row_step xs ys out written i m n (i * v) (i * v + v - i * v) h size e (ap (λ k. i * k) same) (many ∙ same) is at

  -- two lists in two parts at the same place
  pub zip_halves : (xs : List V) (ys : List W) (m : ℕ) (us vs out other : List V) (ws zs : List W) → length xs ≡ length ys
      → us ≡ take m xs → vs ≡ drop m xs → ws ≡ take m ys → zs ≡ drop m ys → out ≡ zip2 f us ws → other ≡ zip2 f vs zs → out ++ other ≡ zip2 f xs ys
  zip_halves xs ys m us vs out other ws zs h first_x last_x first_y last_y is is_other =
      let long : length us ≡ length ws = rw (first_x, first_y) (simp length-take (rw h refl)) in
      ap (λ l. l ++ other) is
      ∙ ap (λ l. zip2 f us ws ++ l) is_other
      ∙ sym (zip2-append f us vs ws zs long)
      ∙ ap (λ l. zip2 f (l ++ vs) (ws ++ zs)) first_x
      ∙ ap (λ l. zip2 f (take m xs ++ l) (ws ++ zs)) last_x
      ∙ ap (λ l. zip2 f (take m xs ++ drop m xs) (l ++ zs)) first_y
      ∙ ap (λ l. zip2 f (take m xs ++ drop m xs) (take m ys ++ l)) last_y
      ∙ ap (λ l. zip2 f l (take m ys ++ drop m ys)) (take-append-drop m xs)
      ∙ ap (zip2 f xs) (take-append-drop m ys)

module _ {R : Type 0} (ring : Ring R) (laws : RingLaws ring) where
  -- nothing was there before
  pub zip_zeros : (n : ℕ) (xs : List R) → length xs ≡ n → zip2 ring.sum (replicate n ring.zero) xs ≡ xs
  zip_zeros zero [] h = refl
  zip_zeros (suc n) [] h = absurd (omega arith)
  zip_zeros zero (x ∷ xs) h = absurd (omega arith)
  zip_zeros (suc n) (x ∷ xs) h =
      let first = laws.zero_sum x in
      let rest = zip_zeros n xs (omega arith) in
      cc (first, rest)

  -- the values themselves, added once to zeros
  pub added_once : (n : ℕ) (old xs : List R) (s : R) → length xs ≡ n → old ≡ replicate n ring.zero → s ≡ ring.one → zip2 ring.sum old (map (ring.product s) xs) ≡ xs
  added_once n old xs s long zeros is =
      ap (λ o. zip2 ring.sum o (map (ring.product s) xs)) zeros
      ∙ zip_zeros n (map (ring.product s) xs) (length-map xs (ring.product s) ∙ long)
      ∙ map-one ring laws s xs is

  -- lines by their differences
  pub zip_lines : (r : R) (lows highs : List R) → length lows ≡ length highs → zip2 (combined ring ring.one r) lows (zip2 ring.minus highs lows) ≡ zip2 (interpolated ring r) lows highs
  zip_lines r [] [] h = refl
  zip_lines r [] (y ∷ ys) h = absurd (omega arith)
  zip_lines r (x ∷ xs) [] h = absurd (omega arith)
  zip_lines r (x ∷ xs) (y ∷ ys) h =
      let step = ap (λ t. ring.sum t (ring.product r (ring.minus y x))) (laws.one_product x) ∙ line_by_step ring laws x y r in
      ap (λ z. z ∷ zip2 (combined ring ring.one r) xs (zip2 ring.minus ys xs)) step ∙ ap (λ zs. interpolated ring r x y ∷ zs) (zip_lines r xs ys (omega arith))
