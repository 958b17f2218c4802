-- Multiples of packed weights added to packed values, or to groups of scalars.
use Rattle.std.proofs.Common.{◌≡◌, ℕ, ◌+◌, ◌-◌, ◌*◌, ◌<◌, List, [], ◌∷◌, ◌++◌, map, length, take, drop, get_or, replicate, refl, sym, ap, ◌∙◌, arith}
use Rattle.std.specs.Simd.Lanes.{zip2}
use Rattle.std.proofs.Math.Nat.{mul_assoc}
use Rattle.std.proofs.lemmas.Grind.{flat_map-append}
use Rattle.std.proofs.lemmas.List.{length-map, take-map, drop-map, map-append}
use Rattle.mlu_ring.specs.Ring.{Ring, RingLaws}
use Rattle.mlu_ring.specs.Lanes.{IsLists, IsLaneByLane, logical}
use Rattle.mlu_ring.proofs.Logical.{block-logical, drop-logical, length-logical, logical-take_more, take-logical}
use Rattle.mlu_ring.proofs.Zips.{zip2-append, zip_whole}
use Rattle.mlu_ring.proofs.LaneProducts.{lanes-product_splat, lanes-splat_product}
use Rattle.mlu_eq.specs.Split.{contents}
use Rattle.mlu_eq.proofs.Contents.{length-contents, scaled_row}
use Rattle.mlu_eq.proofs.Products.{block}
use Rattle.mlu_eq.proofs.Zipped.{zip_block_step, zip_row_step}

module _ {P V : Type 0} (lanes : P → List V) (n : ℕ) (long : (p : P) → length (lanes p) ≡ n) where
  -- the lanes of values of which block i of m is written: the loop counts the block as end less start
  pub logical-written : (ps written : List P) (i m : ℕ) → logical lanes (take (i * m) ps ++ (written ++ drop (i * m + m - i * m) (drop (i * m) ps)))
      ≡ take (i * (m * n)) (logical lanes ps) ++ (logical lanes written ++ drop (i * (m * n) + m * n - i * (m * n)) (drop (i * (m * n)) (logical lanes ps)))
  logical-written ps written i m =
      let rest = drop (i * m + m - i * m) (drop (i * m) ps) in
      let many : i * m + m - i * m ≡ m = omega arith in
      let lanes_many : m * n ≡ i * (m * n) + m * n - i * (m * n) = omega arith in
      let first : take (i * m * n) (logical lanes ps) ≡ logical lanes (take (i * m) ps) = take-logical lanes n long ps (i * m) in
      let last : logical lanes (drop m (drop (i * m) ps)) ≡ drop (m * n) (drop (i * m * n) (logical lanes ps)) =
      sym (drop-logical lanes n long (drop (i * m) ps) m) ∙ ap (λ vs. drop (m * n) vs) (sym (drop-logical lanes n long ps (i * m))) in
      flat_map-append lanes (take (i * m) ps) (written ++ rest)
      ∙ ap (λ vs. logical lanes (take (i * m) ps) ++ vs) (flat_map-append lanes written rest)
      ∙ ap (λ vs. vs ++ (logical lanes written ++ logical lanes rest)) (sym first)
      ∙ ap (λ k. take (i * m * n) (logical lanes ps) ++ (logical lanes written ++ logical lanes (drop k (drop (i * m) ps)))) many
      ∙ ap (λ vs. take (i * m * n) (logical lanes ps) ++ (logical lanes written ++ vs)) last
      ∙ ap (λ k. take k (logical lanes ps) ++ (logical lanes written ++ drop (m * n) (drop k (logical lanes ps)))) (mul_assoc i m n)
      ∙ ap (λ k. take (i * (m * n)) (logical lanes ps) ++ (logical lanes written ++ drop k (drop (i * (m * n)) (logical lanes ps)))) lanes_many

  -- the lanes of m rows
  pub length-rows : (ps ws : List P) (m : ℕ) → length ps ≡ m * length ws → length (logical lanes ps) ≡ m * length (logical lanes ws)
  length-rows ps ws m is =
      length-logical lanes n long ps ∙ ap (λ k. k * n) is ∙ mul_assoc m (length ws) n ∙ ap (λ k. m * k) (sym (length-logical lanes n long ws))

  -- block i of the images of the lanes is the images of the lanes of the value there
  map-logical_block : (f : V → V) (ps : List P) (i : ℕ) (p : P) → i < length ps → p ≡ get_or ps i p → map f (lanes p) ≡ take n (drop (i * n) (map f (logical lanes ps)))
  map-logical_block f ps i p h at_p =
      ap (λ q. map f (lanes q)) at_p
      ∙ ap (map f) (sym (block-logical lanes n long ps i p h))
      ∙ sym (take-map f n (drop (i * n) (logical lanes ps)))
      ∙ ap (λ vs. take n vs) (sym (drop-map f (i * n) (logical lanes ps)))

module _ {P V : Type 0} (packed : Ring P) (ring : Ring V) (lanes : P → List V) (of_lanes : List V → P) (n : ℕ) (parts : IsLists n lanes of_lanes) (each : IsLaneByLane n lanes packed ring) where
  -- the lanes of values to which multiples of others are added
  pub logical-added : (ps ws : List P) (q : P) (x : V) → lanes q ≡ replicate n x → length ps ≡ length ws
      → logical lanes (zip2 packed.sum ps (map (packed.product q) ws)) ≡ zip2 ring.sum (logical lanes ps) (map (ring.product x) (logical lanes ws))
  logical-added [] [] q x is h = refl
  logical-added [] (w ∷ ws) q x is h = absurd (omega arith)
  logical-added (p ∷ ps) [] q x is h = absurd (omega arith)
  logical-added (p ∷ ps) (w ∷ ws) q x is h =
      let same = parts.length-parts p ∙ sym (length-map (lanes w) (ring.product x) ∙ parts.length-parts w) in
      ap (λ vs. vs ++ logical lanes (zip2 packed.sum ps (map (packed.product q) ws))) (each.sum p (packed.product q w) ∙ ap (λ vs. zip2 ring.sum (lanes p) vs) (lanes-splat_product packed ring lanes of_lanes n parts each q w x is))
      ∙ ap (λ vs. zip2 ring.sum (lanes p) (map (ring.product x) (lanes w)) ++ vs) (logical-added ps ws q x is (omega arith))
      ∙ sym (zip2-append ring.sum (lanes p) (logical lanes ps) (map (ring.product x) (lanes w)) (map (ring.product x) (logical lanes ws)) same)
      ∙ ap (λ vs. zip2 ring.sum (lanes p ++ logical lanes ps) vs) (sym (map-append (ring.product x) (lanes w) (logical lanes ws)))

module _ {P V : Type 0} (packed : Ring P) (ring : Ring V) (laws : RingLaws ring) (lanes : P → List V) (of_lanes : List V → P) (n : ℕ) (parts : IsLists n lanes of_lanes) (each : IsLaneByLane n lanes packed ring) where
  -- one more packed weight, times x
  pub scaled-more : (q w s : P) (ws : List P) (i : ℕ) (x : V) → i < length ws → w ≡ get_or ws i w → lanes q ≡ replicate n x → s ≡ packed.product w q
      → map (ring.product x) (logical lanes (take (i + 1) ws)) ≡ map (ring.product x) (logical lanes (take i ws)) ++ lanes s
  scaled-more q w s ws i x h at_w is made =
      let f = ring.product x in
      ap (map f) (logical-take_more lanes n parts.length-parts ws i w h ∙ ap (λ p. logical lanes (take i ws) ++ lanes p) (sym at_w))
      ∙ map-append f (logical lanes (take i ws)) (lanes w)
      ∙ ap (λ vs. map f (logical lanes (take i ws)) ++ vs) (sym (ap lanes made ∙ lanes-product_splat packed ring laws lanes of_lanes n parts each w q x is))

  -- block i of out is written, to which one packed weight, times x, was added
  pub lanes_step : (xs out written : List V) (ws : List P) (q w s : P) (x : V) (i v : ℕ) → i < length ws → length xs ≡ length ws * n → v ≡ n
      → w ≡ get_or ws i w → lanes q ≡ replicate n x → s ≡ packed.product w q
      → out ≡ zip2 ring.sum (take (i * n) xs) (take (i * n) (map (ring.product x) (logical lanes ws))) ++ drop (i * n) xs
      → written ≡ zip2 ring.sum (take (i * v + v - i * v) (drop (i * v) out)) (lanes s)
      → take (i * v) out ++ (written ++ drop (i * v + v - i * v) (drop (i * v) out))
      ≡ zip2 ring.sum (take ((i + 1) * n) xs) (take ((i + 1) * n) (map (ring.product x) (logical lanes ws))) ++ drop ((i + 1) * n) xs
  lanes_step xs out written ws q w s x i v h size same at_w is made so_far added =
      let f = ring.product x in
      let many = length-map (logical lanes ws) f ∙ length-logical lanes n parts.length-parts ws in
      let group = block out i v ∙ ap (λ k. take k (drop (i * k) out)) same in
      let scaled = ap lanes made ∙ lanes-product_splat packed ring laws lanes of_lanes n parts each w q x is ∙ map-logical_block lanes n parts.length-parts f ws i w h at_w in
      zip_block_step ring.sum xs (map f (logical lanes ws)) out written i (length ws) v n h size (size ∙ sym many) same so_far
      (added ∙ (λ k. zip2 ring.sum (group k) (scaled k)))

  -- all blocks are written
  pub lanes_whole : (xs out : List V) (ws : List P) (x : V) (i : ℕ) → length xs ≡ length ws * n → i ≡ length ws
      → out ≡ zip2 ring.sum (take (i * n) xs) (take (i * n) (map (ring.product x) (logical lanes ws))) ++ drop (i * n) xs
      → out ≡ zip2 ring.sum xs (map (ring.product x) (logical lanes ws))
  lanes_whole xs out ws x i size end so_far =
      so_far
      ∙ zip_whole ring.sum xs (map (ring.product x) (logical lanes ws)) (i * n) (size ∙ ap (λ k. k * n) (sym end))
      (size ∙ sym (length-map (logical lanes ws) (ring.product x) ∙ length-logical lanes n parts.length-parts ws))

-- what a loop leaves that adds the table of two halves, times s, row by row
abbrev pub rows_added : {R : Type 0} → Ring R → List R → List R → List R → R → ℕ → List R
rows_added ring eq0 w old s j =
    let done = j * length w in
    zip2 ring.sum (take done old) (take done (map (ring.product s) (contents ring eq0 w))) ++ drop done old

module _ {R : Type 0} (ring : Ring R) (laws : RingLaws ring) (eq0 w old : List R) (s : R) (size : length old ≡ length eq0 * length w) where
  as_many : length old ≡ length (map (ring.product s) (contents ring eq0 w))
  as_many = size ∙ sym (length-map (contents ring eq0 w) (ring.product s) ∙ length-contents ring eq0 w)

  -- row j of out is written, to which the weights, times s and an entry of the first half, were added
  pub rows_step : (out row : List R) (x factor : R) (j start v : ℕ) → j < length eq0 → x ≡ get_or eq0 j x → factor ≡ ring.product s x
      → start ≡ j * length w → v ≡ length w → out ≡ rows_added ring eq0 w old s j
      → row ≡ zip2 ring.sum (take v (drop start out)) (map (ring.product factor) w)
      → take start out ++ (row ++ drop v (drop start out)) ≡ rows_added ring eq0 w old s (j + 1)
  rows_step out row x factor j start v h at_x made begins places so_far added =
      zip_row_step ring.sum old (map (ring.product s) (contents ring eq0 w)) out row j (length eq0) (length w) start v h size as_many begins places so_far
      (added
      ∙ (λ k. zip2 ring.sum (take (places k) (drop (begins k) out)) (map (ring.product (made k)) w))
      ∙ ap (zip2 ring.sum (take (length w) (drop (j * length w) out))) (scaled_row ring laws eq0 w s x j h at_x))

  -- all rows are written
  pub rows_whole : (out : List R) (j : ℕ) → j ≡ length eq0 → out ≡ rows_added ring eq0 w old s j
      → out ≡ zip2 ring.sum old (map (ring.product s) (contents ring eq0 w))
  rows_whole out j end so_far =
      so_far ∙ zip_whole ring.sum old (map (ring.product s) (contents ring eq0 w)) (j * length w) (size ∙ ap (λ k. k * length w) (sym end)) as_many
