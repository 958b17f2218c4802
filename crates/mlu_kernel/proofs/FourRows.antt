-- Blocks added to packed values, each times its weight.
use Rattle.std.proofs.Common.{◌≡◌, ℕ, zero, suc, ◌+◌, ◌*◌, ◌/◌, ◌%◌, ◌<◌, ◌≤◌, List, [], ◌∷◌, ◌++◌, map, length, take, drop, set, get_or, replicate, sym, ap, ◌∙◌, arith}
use Rattle.std.specs.Simd.Lanes.{zip2}
use Rattle.std.proofs.Math.Nat.{mul-div_cancel_left, mul_assoc}
use Rattle.std.proofs.lemmas.List.{ext_get_or, get_or-map, get_or-take, get_or-drop, get_or-replicate, length-map, length-take-le, length-drop, append_assoc, take_more}
use Rattle.std.proofs.lemmas.Simd.{get_or-zip2}
use Rattle.mlu_ring.specs.Ring.{Ring, RingLaws}
use Rattle.mlu_ring.specs.Tables.{pair, front}
use Rattle.mlu_ring.specs.Matrices.{row_at}
use Rattle.mlu_ring.specs.Lanes.{splat_of, logical}
use Rattle.mlu_ring.proofs.SumsBelow.{sum_below-same}
use Rattle.mlu_ring.proofs.Tabulated.{tabulate, length-tabulate, get_or-tabulate}
use Rattle.mlu_ring.proofs.Totals.{pair-nil, pair-cons}
use Rattle.mlu_ring.proofs.Joined.{front-entry}
use Rattle.mlu_ring.proofs.Rows.{row-fits, place-within, map-row_at}
use Rattle.mlu_ring.proofs.Logical.{length-logical, block-logical, get_or-logical, zip_block_more}
use Rattle.mlu_kernel.specs.Kernels.{plus_rows}
use Rattle.mlu_ring.proofs.PackedCoefficients.{IsPackedExtension, coefficient-sum, coefficient-scale, coefficient-splat, coefficient-zero, by_coefficients}
use Rattle.mlu_kernel.proofs.PlusRows.{length-front, plus_rows_by_entry, plus_rows-front, plus_rows-append}

-- the dot of the blocks with coefficient k of the weights, for each k
abbrev pub products_of : {B E P : Type 0} → Ring B → Ring P → ℕ → (List B → P) → ℕ → (E → List B) → List E → List P → List P
products_of base packing width of_lanes dimension coefficients ws bs =
    tabulate dimension (λ k. pair packing bs (map (splat_of width of_lanes) (map (λ w. get_or (coefficients w) k base.zero) ws)))

-- the images of what is read of a list of four
pub map-four : {A C : Type 0} (f : A → C) (xs : List A) (a b c d : A) (r s t u : C) → length xs ≡ 4
    → a ≡ get_or xs 0 a → b ≡ get_or xs 1 b → c ≡ get_or xs 2 c → d ≡ get_or xs 3 d
    → r ≡ f a → s ≡ f b → t ≡ f c → u ≡ f d → (r ∷ s ∷ t ∷ u ∷ []) ≡ map f xs
map-four f (w ∷ x ∷ y ∷ z ∷ []) a b c d r s t u h ea eb ec ed er es et eu = cc (ea, eb, ec, ed, er, es, et, eu)
map-four f xs a b c d r s t u h ea eb ec ed er es et eu = absurd (omega arith)

-- four coefficients, each grown by its term
pub grown-four : {P : Type 0} (f : P → P → P) (old : List P) (term : ℕ → P) (p q r s a b c d z : P) → length old ≡ 4
    → p ≡ get_or old 0 z → q ≡ get_or old 1 z → r ≡ get_or old 2 z → s ≡ get_or old 3 z
    → a ≡ f p (term 0) → b ≡ f q (term 1) → c ≡ f r (term 2) → d ≡ f s (term 3)
    → (a ∷ b ∷ c ∷ d ∷ []) ≡ zip2 f old (tabulate 4 term)
grown-four f (t ∷ u ∷ v ∷ w ∷ []) term p q r s a b c d z long at_p at_q at_r at_s is_a is_b is_c is_d =
    (λ i. is_a i ∷ is_b i ∷ is_c i ∷ is_d i ∷ []) ∙ (λ i. f (at_p i) (term 0) ∷ f (at_q i) (term 1) ∷ f (at_r i) (term 2) ∷ f (at_s i) (term 3) ∷ [])
grown-four f old term p q r s a b c d z long at_p at_q at_r at_s is_a is_b is_c is_d = absurd (omega arith)

module _ {B E P Q : Type 0} {base : Ring B} {ext : Ring E} {packing : Ring P} {packed : Ring Q} {width dimension : ℕ} {lanes : P → List B} {of_lanes : List B → P} {coefficients : E → List B} {ext_lanes : Q → List E} {of_ext_lanes : List E → Q} {packed_coefficients : Q → List P} {of_packed_coefficients : List P → Q} {embed : B → E} {embed_packing : P → Q} (laws : IsPackedExtension base ext packing packed width dimension lanes of_lanes coefficients ext_lanes of_ext_lanes packed_coefficients of_packed_coefficients embed embed_packing) (embed_element : E → Q) (in_each_lane : (x : E) → ext_lanes (embed_element x) ≡ replicate width x) where
  -- the dot of weights and blocks, as packed values
  abbrev dot : List E → List P → Q
  dot ws bs = pair packed (map embed_element ws) (map embed_packing bs)

  coefficient-dot : (ws : List E) (bs : List P) (c : ℕ) → c < dimension → length ws ≡ length bs → get_or (packed_coefficients (dot ws bs)) c packing.zero ≡ pair packing bs (map (splat_of width of_lanes) (map (λ w. get_or (coefficients w) c base.zero) ws))
  coefficient-dot [] [] c h long =
      ap (λ p. get_or (packed_coefficients p) c packing.zero) (pair-nil packed laws.packed_laws [])
      ∙ coefficient-zero laws c h
      ∙ sym (pair-nil packing laws.packing_laws [])
  coefficient-dot [] (b ∷ bs) c h long = absurd (omega arith)
  coefficient-dot (w ∷ ws) [] c h long = absurd (omega arith)
  coefficient-dot (w ∷ ws) (b ∷ bs) c h long =
      let splat = splat_of width of_lanes in
      let x = splat_of width of_lanes (get_or (coefficients w) c base.zero) in
      let xs = map (splat_of width of_lanes) (map (λ w. get_or (coefficients w) c base.zero) ws) in
      let first = packed.product (embed_element w) (embed_packing b) in
      ap (λ p. get_or (packed_coefficients p) c packing.zero) (pair-cons packed laws.packed_laws (embed_element w) (embed_packing b) (map embed_element ws) (map embed_packing bs))
      ∙ coefficient-sum laws first (dot ws bs) c h
      ∙ ap (λ t. packing.sum t (get_or (packed_coefficients (dot ws bs)) c packing.zero))
      (coefficient-scale laws (embed_element w) b c h ∙ ap (λ t. packing.product t b) (coefficient-splat laws embed_element in_each_lane w c h) ∙ laws.packing_laws.product_comm x b)
      ∙ ap (packing.sum (packing.product b x)) (coefficient-dot ws bs c h (omega arith))
      ∙ sym (pair-cons packing laws.packing_laws b x bs xs)

  lane-dot : (ws : List E) (bs : List P) (k : ℕ) → k < width → length ws ≡ length bs → get_or (ext_lanes (dot ws bs)) k ext.zero ≡ pair ext ws (map (λ b. embed (get_or (lanes b) k base.zero)) bs)
  lane-dot [] [] k h long =
      ap (λ p. get_or (ext_lanes p) k ext.zero) (pair-nil packed laws.packed_laws [])
      ∙ ap (λ l. get_or l k ext.zero) laws.ext_lane_by_lane.zero
      ∙ get_or-replicate width k ext.zero ext.zero h
      ∙ sym (pair-nil ext laws.ext_laws [])
  lane-dot [] (b ∷ bs) k h long = absurd (omega arith)
  lane-dot (w ∷ ws) [] k h long = absurd (omega arith)
  lane-dot (w ∷ ws) (b ∷ bs) k h long =
      let q = embed_element w in
      let f = embed_packing b in
      let read = λ (b : P). embed (get_or (lanes b) k base.zero) in
      let lane = λ (p : Q). get_or (ext_lanes p) k ext.zero in
      let inside = λ (p : Q). laws.ext_lanes_are.length-parts p in
      ap lane (pair-cons packed laws.packed_laws q f (map embed_element ws) (map embed_packing bs))
      ∙ ap (λ l. get_or l k ext.zero) (laws.ext_lane_by_lane.sum (packed.product q f) (dot ws bs))
      ∙ get_or-zip2 ext.sum (ext_lanes (packed.product q f)) (ext_lanes (dot ws bs)) k ext.zero ext.zero ext.zero (rw (inside (packed.product q f)) h) (rw (inside (dot ws bs)) h)
      ∙ ap (λ t. ext.sum t (lane (dot ws bs)))
      (ap (λ l. get_or l k ext.zero) (laws.ext_lane_by_lane.product q f)
      ∙ get_or-zip2 ext.product (ext_lanes q) (ext_lanes f) k ext.zero ext.zero ext.zero (rw (inside q) h) (rw (inside f) h)
      ∙ ap (λ t. ext.product t (lane f)) (ap (λ l. get_or l k ext.zero) (in_each_lane w) ∙ get_or-replicate width k w ext.zero h)
      ∙ ap (ext.product w) (ap (λ l. get_or l k ext.zero) (laws.embeds_packing b) ∙ get_or-map embed (lanes b) k base.zero ext.zero (rw (laws.lanes_are.length-parts b) h)))
      ∙ ap (ext.sum (ext.product w (read b))) (lane-dot ws bs k h (omega arith))
      ∙ sym (pair-cons ext laws.ext_laws w (read b) ws (map read bs))

  -- the packed value whose coefficients grew by the dots has lanes that grew by the weighted blocks
  pub plus_rows-products : (p r : Q) (ws : List E) (bs : List P) → length ws ≡ length bs
      → packed_coefficients r ≡ zip2 packing.sum (packed_coefficients p) (products_of base packing width of_lanes dimension coefficients ws bs)
      → ext_lanes r ≡ plus_rows ext (ext_lanes p) ws (map embed (logical lanes bs))
  unfolding pair
  plus_rows-products p r ws bs long grown =
      let products = products_of base packing width of_lanes dimension coefficients ws bs in
      let term = λ (c : ℕ). pair packing bs (map (splat_of width of_lanes) (map (λ w. get_or (coefficients w) c base.zero) ws)) in
      let many = length-tabulate dimension term in
      let all = packed.sum p (dot ws bs) in
      let e = map embed (logical lanes bs) in
      let wide = laws.ext_lanes_are.length-parts p in
      let is : r ≡ packed.sum p (dot ws bs) =
      by_coefficients laws r all
      (λ c h.
      ap (λ l. get_or l c packing.zero) grown
      ∙ get_or-zip2 packing.sum (packed_coefficients p) products c packing.zero packing.zero packing.zero (rw (laws.packed_coefficients_are.length-parts p) h) (rw many h)
      ∙ ap (packing.sum (get_or (packed_coefficients p) c packing.zero)) (get_or-tabulate dimension term c packing.zero h ∙ sym (coefficient-dot ws bs c h long))
      ∙ sym (coefficient-sum laws p (dot ws bs) c h)) in
      ap ext_lanes is
      ∙ plus_rows_by_entry ext laws.ext_laws (ext_lanes p) ws e (ext_lanes all) (laws.ext_lanes_are.length-parts all ∙ sym wide)
      (λ z q.
      let below : z < width = rw (← wide) q in
      ap (λ l. get_or l z ext.zero) (laws.ext_lane_by_lane.sum p (dot ws bs))
      ∙ get_or-zip2 ext.sum (ext_lanes p) (ext_lanes (dot ws bs)) z ext.zero ext.zero ext.zero q (rw (laws.ext_lanes_are.length-parts (dot ws bs)) below)
      ∙ ap (ext.sum (get_or (ext_lanes p) z ext.zero))
      (lane-dot ws bs z below long
      ∙ sum_below-same ext (length ws) (λ y. ext.product (get_or ws y ext.zero) (get_or (map (λ b. embed (get_or (lanes b) z base.zero)) bs) y ext.zero)) (λ y. ext.product (get_or ws y ext.zero) (get_or e (y * length (ext_lanes p) + z) ext.zero))
      (λ y h.
      let place : y < length bs = omega (arith, long) in
      let size = length-logical lanes width laws.lanes_are.length-parts bs in
      let held : y * width + z < length (logical lanes bs) = rw size (place-within y (length bs) z width place below) in
      ap (ext.product (get_or ws y ext.zero))
      (get_or-map (λ b. embed (get_or (lanes b) z base.zero)) bs y packing.zero ext.zero place
      ∙ ap embed (sym (get_or-logical lanes width laws.lanes_are.length-parts bs y z packing.zero base.zero place below))
      ∙ sym (get_or-map embed (logical lanes bs) (y * width + z) base.zero ext.zero held)
      ∙ ap (λ n. get_or e (y * n + z) ext.zero) (sym wide)))))

module _ {R : Type 0} (ring : Ring R) (laws : RingLaws ring) where
  pub length-front_rows : (w e : List R) (s : ℕ) → 0 < length w → length e ≡ length w * s → length (front ring w e) ≡ s
  length-front_rows w e s some rows = length-front ring laws w e ∙ ap (λ k. k / length w) rows ∙ mul-div_cancel_left s some

  -- the same block of each row, compressed, is that block of the rows' compression
  front-block : (w e f : List R) (s n z : ℕ) → 0 < length w → length e ≡ length w * s → length f ≡ length w * n → (z + 1) * n ≤ s
      → ((y : ℕ) → y < length w → row_at n f y ≡ row_at n (row_at s e y) z) → front ring w f ≡ row_at n (front ring w e) z
  front-block w e f s n z some rows blocks fits same =
      let wide : length e / length w ≡ s = ap (λ k. k / length w) rows ∙ mul-div_cancel_left s some in
      let narrow : length f / length w ≡ n = ap (λ k. k / length w) blocks ∙ mul-div_cancel_left n some in
      let whole = length-front ring laws w e ∙ wide in
      let room : n ≤ length (drop (z * n) (front ring w e)) = omega (arith, length-drop (z * n) (front ring w e), whole) in
      let long = length-front ring laws w f ∙ narrow in
      ext_get_or ring.zero (front ring w f) (row_at n (front ring w e) z) (long ∙ sym (length-take-le n (drop (z * n) (front ring w e)) room))
      (λ j q.
      let below : j < n = omega (arith, long) in
      let place : z * n + j < s = omega arith in
      front-entry ring laws w f j n narrow below
      ∙ sum_below-same ring (length w) (λ y. ring.product (get_or w y ring.zero) (get_or f (y * n + j) ring.zero)) (λ y. ring.product (get_or w y ring.zero) (get_or e (y * s + (z * n + j)) ring.zero))
      (λ y h.
      ap (ring.product (get_or w y ring.zero))
      (sym (get_or-take n (drop (y * n) f) j ring.zero below ∙ get_or-drop (y * n) f j ring.zero)
      ∙ ap (λ l. get_or l j ring.zero) (same y h)
      ∙ get_or-take n (drop (z * n) (row_at s e y)) j ring.zero below
      ∙ get_or-drop (z * n) (row_at s e y) j ring.zero
      ∙ get_or-take s (drop (y * s) e) (z * n + j) ring.zero place
      ∙ get_or-drop (y * s) e (z * n + j) ring.zero))
      ∙ sym (get_or-take n (drop (z * n) (front ring w e)) j ring.zero below ∙ get_or-drop (z * n) (front ring w e) j ring.zero ∙ front-entry ring laws w e (z * n + j) s wide place))

module _ {Q E : Type 0} (ring : Ring E) (laws : RingLaws ring) (lanes : Q → List E) (n : ℕ) (parts : (q : Q) → length (lanes q) ≡ n) where
  -- the loop that adds rows at once, packed value by packed value: f has the blocks of the rows at z
  pub rows_block_more : (ps : List Q) (old w e f : List E) (z : ℕ) (p r : Q) → z < length ps → length old ≡ length ps * n
      → 0 < length w → length e ≡ length w * length old → length f ≡ length w * n
      → logical lanes ps ≡ zip2 ring.sum (take (z * n) old) (take (z * n) (front ring w e)) ++ drop (z * n) old
      → p ≡ get_or ps z p → lanes r ≡ plus_rows ring (lanes p) w f
      → ((y : ℕ) → y < length w → row_at n f y ≡ row_at n (row_at (length old) e y) z)
      → logical lanes (set ps z r) ≡ zip2 ring.sum (take ((z + 1) * n) old) (take ((z + 1) * n) (front ring w e)) ++ drop ((z + 1) * n) old
  rows_block_more ps old w e f z p r h many some rows blocks is at_p made same =
      let s = length old in
      let wide : length e / length w ≡ length old = ap (λ k. k / length w) rows ∙ mul-div_cancel_left (length old) some in
      let fits : (z + 1) * n ≤ length old = rw many (row-fits (length ps * n) (length ps) n z h (omega arith)) in
      zip_block_more lanes n parts ring.sum ps old (front ring w e) z p r h many (sym (length-front ring laws w e ∙ wide)) is at_p
      (made
      ∙ plus_rows-front ring laws (lanes p) w f some (blocks ∙ ap (λ k. length w * k) (sym (parts p)))
      ∙ ap (zip2 ring.sum (lanes p)) (front-block ring laws w e f s n z some rows blocks fits same))

each_of_four : {A C : Type 0} (f : A → C) (g : ℕ → C) (a b c d e : A) → f a ≡ g 0 → f b ≡ g 1 → f c ≡ g 2 → f d ≡ g 3 → (y : ℕ) → y < 4 → f (get_or (a ∷ b ∷ c ∷ d ∷ []) y e) ≡ g y
each_of_four f g a b c d e ea eb ec ed zero h = ea
each_of_four f g a b c d e ea eb ec ed (suc zero) h = eb
each_of_four f g a b c d e ea eb ec ed (suc (suc zero)) h = ec
each_of_four f g a b c d e ea eb ec ed (suc (suc (suc zero))) h = ed
each_of_four f g a b c d e ea eb ec ed (suc (suc (suc (suc y)))) h = absurd (omega arith)

module _ {B E P Q : Type 0} (ring : Ring E) (laws : RingLaws ring) (ext_lanes : Q → List E) (lanes : P → List B) (n : ℕ) (ext_parts : (q : Q) → length (ext_lanes q) ≡ n) (parts : (p : P) → length (lanes p) ≡ n) (embed : B → E) where
  blocks-of_rows : (bs : List P) (rows : List B) (s z : ℕ) (d : P) → ((y : ℕ) → y < length bs → lanes (get_or bs y d) ≡ row_at n (row_at s rows y) z)
      → (y : ℕ) → y < length bs → row_at n (map embed (logical lanes bs)) y ≡ row_at n (row_at s (map embed rows) y) z
  blocks-of_rows bs rows s z d at y h =
      sym (map-row_at embed n (logical lanes bs) y)
      ∙ ap (map embed) (block-logical lanes n parts bs y d h ∙ at y h)
      ∙ map-row_at embed n (row_at s rows y) z
      ∙ ap (λ l. row_at n l z) (map-row_at embed s rows y)

  -- the loop that adds four rows, packed value by packed value
  pub four_rows_more : (ps : List Q) (old w : List E) (rows : List B) (z s : ℕ) (a b c d : P) (p r : Q) → z < length ps → length old ≡ s → s ≡ length ps * n → length w ≡ 4 → length rows ≡ 4 * s
      → logical ext_lanes ps ≡ zip2 ring.sum (take (z * n) old) (take (z * n) (front ring w (map embed rows))) ++ drop (z * n) old
      → p ≡ get_or ps z p → ext_lanes r ≡ plus_rows ring (ext_lanes p) w (map embed (logical lanes (a ∷ b ∷ c ∷ d ∷ [])))
      → lanes a ≡ row_at n (row_at s rows 0) z → lanes b ≡ row_at n (row_at s rows 1) z → lanes c ≡ row_at n (row_at s rows 2) z → lanes d ≡ row_at n (row_at s rows 3) z
      → logical ext_lanes (set ps z r) ≡ zip2 ring.sum (take ((z + 1) * n) old) (take ((z + 1) * n) (front ring w (map embed rows))) ++ drop ((z + 1) * n) old
  four_rows_more ps old w rows z s a b c d p r h is_s many four long is at_p made ea eb ec ed =
      let bs = a ∷ b ∷ c ∷ d ∷ [] in
      let e = map embed rows in
      let f = map embed (logical lanes (a ∷ b ∷ c ∷ d ∷ [])) in
      let blocks : length (map embed (logical lanes (a ∷ b ∷ c ∷ d ∷ []))) ≡ length w * n =
      length-map (logical lanes bs) embed ∙ length-logical lanes n parts bs ∙ ap (λ k. k * n) (sym four) in
      let entries : length (map embed rows) ≡ length w * length old = length-map rows embed ∙ long ∙ ap (λ k. k * s) (sym four) ∙ ap (λ k. length w * k) (sym is_s) in
      rows_block_more ring laws ext_lanes n ext_parts ps old w e f z p r h (is_s ∙ many) (omega (arith, four)) entries blocks is at_p made
      (λ y q. blocks-of_rows bs rows s z a (each_of_four lanes (λ y. row_at n (row_at s rows y) z) a b c d a ea eb ec ed) y (omega (arith, four)) ∙ ap (λ k. row_at n (row_at k e y) z) (sym is_s))

-- the next four entries
pub take-four_more : {A : Type 0} (xs : List A) (i k : ℕ) (a b c d : A) → k ≡ 4 * i → k + 3 < length xs → a ≡ get_or xs k a → b ≡ get_or xs (k + 1) b → c ≡ get_or xs (k + 2) c → d ≡ get_or xs (k + 3) d
    → take (4 * i) xs ++ a ∷ b ∷ c ∷ d ∷ [] ≡ take (4 * (i + 1)) xs
take-four_more xs i k a b c d is h ea eb ec ed =
    let second : k + 1 + 1 ≡ k + 2 = omega arith in
    let third : k + 2 + 1 ≡ k + 3 = omega arith in
    let end : k + 3 + 1 ≡ 4 * (i + 1) = omega arith in
    ap (λ n. take n xs ++ a ∷ b ∷ c ∷ d ∷ []) (sym is)
    ∙ sym (append_assoc (take k xs) (a ∷ []) (b ∷ c ∷ d ∷ []))
    ∙ ap (λ l. l ++ b ∷ c ∷ d ∷ []) (ap (λ x. take k xs ++ x ∷ []) ea ∙ sym (take_more xs k a (omega arith)))
    ∙ sym (append_assoc (take (k + 1) xs) (b ∷ []) (c ∷ d ∷ []))
    ∙ ap (λ l. l ++ c ∷ d ∷ []) (ap (λ x. take (k + 1) xs ++ x ∷ []) eb ∙ sym (take_more xs (k + 1) b (omega arith)) ∙ ap (λ n. take n xs) second)
    ∙ sym (append_assoc (take (k + 2) xs) (c ∷ []) (d ∷ []))
    ∙ ap (λ l. l ++ d ∷ []) (ap (λ x. take (k + 2) xs ++ x ∷ []) ec ∙ sym (take_more xs (k + 2) c (omega arith)) ∙ ap (λ n. take n xs) third)
    ∙ ap (λ x. take (k + 3) xs ++ x ∷ []) ed ∙ sym (take_more xs (k + 3) d h) ∙ ap (λ n. take n xs) end

module _ {R : Type 0} (ring : Ring R) (laws : RingLaws ring) where
  -- four more weights with their rows
  pub plus_rows-four_more : (old w e between : List R) (i k s r : ℕ) (a b c d : R) → k ≡ 4 * i → k + 3 < length w → length old ≡ s → r ≡ 4 * s
      → a ≡ get_or w k a → b ≡ get_or w (k + 1) b → c ≡ get_or w (k + 2) c → d ≡ get_or w (k + 3) d
      → between ≡ plus_rows ring old (take (4 * i) w) e
      → plus_rows ring between (a ∷ b ∷ c ∷ d ∷ []) (row_at r e i) ≡ plus_rows ring old (take (4 * (i + 1)) w) e
  plus_rows-four_more old w e between i k s r a b c d is h is_s is_r ea eb ec ed so_far =
      let four = a ∷ b ∷ c ∷ d ∷ [] in
      let done = take (4 * i) w in
      let room : 4 * i ≤ length w = omega (arith, is) in
      let first : length (take (4 * i) w) ≡ 4 * i = length-take-le (4 * i) w room in
      let start : i * r ≡ length (take (4 * i) w) * s = rw (first, is_r) (omega arith) in
      ap (λ l. plus_rows ring l four (row_at r e i)) so_far
      ∙ ap (λ m. plus_rows ring (plus_rows ring old done e) four (take r (drop m e))) start
      ∙ ap (λ m. plus_rows ring (plus_rows ring old done e) four (take m (drop (length done * s) e))) is_r
      ∙ plus_rows-append ring laws old done four e s is_s
      ∙ ap (λ v. plus_rows ring old v e) (take-four_more w i k a b c d is h ea eb ec ed)

-- rows for so many lanes, four at a time
pub rows-by_four : (m n v s : ℕ) → m ≡ n * s → n % 4 ≡ 0 → v ≡ n → m ≡ v / 4 * (4 * s)
rows-by_four m n v s is fours same =
    let all : v / 4 * 4 ≡ n = omega (arith, fours, same) in
    is ∙ ap (λ k. k * s) (sym all) ∙ mul_assoc (v / 4) 4 s
