-- Compressions in runs of the first half.
use Rattle.std.proofs.Common.{◌≡◌, ℕ, zero, suc, ◌+◌, ◌-◌, ◌*◌, ◌/◌, ◌<◌, ◌≤◌, ◌⊎◌, inl, inr, List, [], ◌∷◌, ◌++◌, length, map, take, drop, get_or, replicate, refl, sym, ap, ◌∙◌, arith}
use Rattle.std.specs.Simd.Lanes.{zip2}
use Rattle.std.specs.Prelude.{min}
use Rattle.std.specs.Int.{div_ceil}
use Rattle.std.proofs.Math.Nat.{mul-le-mul_right, mul_assoc, le-min, min-eq_left, mul-pos}
use Rattle.std.proofs.lemmas.Bool.{cases_lt}
use Rattle.std.proofs.lemmas.Grind.{div_ceil_times}
use Rattle.std.proofs.Math.Seq.{take-add}
use Rattle.std.proofs.lemmas.List.{ext_get_or, get_or-take, take_all, length-map, length-replicate, length-take-le, length-drop, take-map, drop-map, get_or-replicate, get_or_default}
use Rattle.std.proofs.lemmas.Simd.{length-zip2, get_or-zip2}
use Rattle.mlu_ring.specs.Ring.{Ring, RingLaws}
use Rattle.mlu_ring.specs.Lanes.{IsLaneByLane, logical}
use Rattle.mlu_ring.specs.Sums.{sum_below}
use Rattle.mlu_ring.specs.Successor.{moved_up, shifted}
use Rattle.mlu_ring.proofs.Logical.{length-logical, take-logical, drop-logical, logical-replicate}
use Rattle.mlu_ring.proofs.Rows.{row-width}
use Rattle.mlu_kernel.specs.Kernels.{plus_rows}
use Rattle.mlu_kernel.proofs.PlusRows.{plus_rows-append, length-plus_rows, get_or-plus_rows}
use Rattle.mlu_eq.specs.Split.{contents, row_weight, run_of}
use Rattle.mlu_eq.proofs.Contents.{contents-rows, length-contents, get_or-contents_row}
use Rattle.mlu_eq.proofs.Shifted.{plus_rows-take, plus_rows-zero, plus_rows-shifted}
use Rattle.mlu_ring.proofs.Zips.{zip2-append}

-- values that are their own only lanes
pub own_lanes : {R : Type 0} (xs : List R) → logical (λ x. x ∷ []) xs ≡ xs
own_lanes [] = refl
own_lanes (x ∷ xs) = ap (λ ys. x ∷ ys) (own_lanes xs)

module _ {A : Type 0} where
  take-less : (b m : ℕ) (xs : List A) → b ≤ m → take b (take m xs) ≡ take b xs
  take-less zero m xs h = refl
  take-less (suc b) zero xs h = absurd (omega arith)
  take-less (suc b) (suc m) [] h = refl
  take-less (suc b) (suc m) (x ∷ xs) h = ap (λ ys. x ∷ ys) (take-less b m xs (omega arith))

  slice-take : (a b m : ℕ) (xs : List A) → a + b ≤ m → take b (drop a (take m xs)) ≡ take b (drop a xs)
  slice-take zero b m xs h = take-less b m xs (omega arith)
  slice-take (suc a) b zero xs h = absurd (omega arith)
  slice-take (suc a) b (suc m) [] h = refl
  slice-take (suc a) b (suc m) (x ∷ xs) h = slice-take a b m xs (omega arith)

  slice-first : (a b : ℕ) (xs : List A) (d : A) → a < length xs → take (suc b) (drop a xs) ≡ get_or xs a d ∷ take b (drop (suc a) xs)
  slice-first a b [] d h = absurd (omega arith)
  slice-first zero b (x ∷ xs) d h = refl
  slice-first (suc a) b (x ∷ xs) d h = slice-first a b xs d (omega arith)

  moved_up-take : (x : A) (b : ℕ) (xs : List A) → suc b ≤ length xs → moved_up x (take (suc b) xs) ≡ x ∷ take b xs
  moved_up-take x b xs h =
      let few : length (take (suc b) xs) - 1 ≡ b = omega (arith, length-take-le (suc b) xs h) in
      ap (λ k. x ∷ take k (take (suc b) xs)) few ∙ ap (λ ys. x ∷ ys) (take-less b (suc b) xs (omega arith))

  get_or-moved_up : (z d : A) (a : ℕ) (xs : List A) → suc a < length xs → get_or (moved_up z xs) (suc a) d ≡ get_or xs a d
  get_or-moved_up z d a xs h = get_or-take (length xs - 1) xs a d (omega arith)

  -- b places of a list that is moved up: before the others stands the one before them
  pub moved_up-slice : (z d : A) (a b : ℕ) (xs : List A) → 0 < b → a + b ≤ length xs → take b (drop a (moved_up z xs)) ≡ moved_up (get_or (moved_up z xs) a d) (take b (drop a xs))
  moved_up-slice z d a zero xs some h = absurd (omega arith)
  moved_up-slice z d zero (suc b) xs some h = ap (λ ys. z ∷ ys) (take-less b (length xs - 1) xs (omega arith)) ∙ sym (moved_up-take z b xs (omega arith))
  moved_up-slice z d (suc a) (suc b) xs some h =
      slice-take a (suc b) (length xs - 1) xs (omega arith)
      ∙ slice-first a b xs d (omega arith)
      ∙ ap (λ x. x ∷ take b (drop (suc a) xs)) (sym (get_or-moved_up z d a xs (omega arith)))
      ∙ sym (moved_up-take (get_or (moved_up z xs) (suc a) d) b (drop (suc a) xs) (omega (arith, length-drop (suc a) xs)))

  -- from the end on all of a list is taken
  pub take_past : (k m : ℕ) (xs : List A) → length xs ≤ k → length xs ≤ m → take k xs ≡ take m xs
  take_past k m xs h q = take_all k xs h ∙ sym (take_all m xs q)

  -- what the slice from start to start + run is
  pub sliced : (start run : ℕ) (xs ys : List A) → ys ≡ take (start + run - start) (drop start xs) → ys ≡ take run (drop start xs)
  sliced start run xs ys is =
      let many : start + run - start ≡ run = omega arith in
      is ∙ ap (λ k. take k (drop start xs)) many

module _ {P V : Type 0} (packed : Ring P) (ring : Ring V) (lanes : P → List V) (n : ℕ) (long : (p : P) → length (lanes p) ≡ n) (each : IsLaneByLane n lanes packed ring) where
  -- sums place by place are sums lane by lane
  pub logical-sums : (ps qs : List P) → length ps ≡ length qs → logical lanes (zip2 packed.sum ps qs) ≡ zip2 ring.sum (logical lanes ps) (logical lanes qs)
  logical-sums [] [] h = refl
  logical-sums [] (q ∷ qs) h = absurd (omega arith)
  logical-sums (p ∷ ps) [] h = absurd (omega arith)
  logical-sums (p ∷ ps) (q ∷ qs) h =
      ap (λ vs. vs ++ logical lanes (zip2 packed.sum ps qs)) (each.sum p q)
      ∙ ap (λ vs. zip2 ring.sum (lanes p) (lanes q) ++ vs) (logical-sums ps qs (omega arith))
      ∙ sym (zip2-append ring.sum (lanes p) (logical lanes ps) (lanes q) (logical lanes qs) (long p ∙ sym (long q)))

module _ {R : Type 0} (ring : Ring R) where
  -- the rows of a run of the first half
  pub contents-run : (eq0 w : List R) (start run : ℕ) → run_of (length w) start run (contents ring eq0 w) ≡ contents ring (take run (drop start eq0)) w
  contents-run eq0 w start run =
      let n = length w in
      let row = λ (x : R). map (ring.product x) w in
      let long = λ (x : R). length-map w (ring.product x) in
      ap (λ c. take (run * n) (drop (start * n) c)) (contents-rows ring eq0 w)
      ∙ ap (take (run * n)) (drop-logical row n long eq0 start)
      ∙ take-logical row n long (drop start eq0) run
      ∙ sym (contents-rows ring (take run (drop start eq0)) w)

module _ {R : Type 0} (ring : Ring R) (laws : RingLaws ring) where
  infixl 50 ◌⊕◌
  infixl 60 ◌⊗◌
  open ring use {sum as ◌⊕◌, product as ◌⊗◌, zero as 𝟘}

  within_contents : (eq0 w : List R) (start run : ℕ) → start + run ≤ length eq0 → start * length w + run * length w ≤ length (contents ring eq0 w)
  within_contents eq0 w start run h =
      let room : (start + run) * length w ≤ length eq0 * length w = mul-le-mul_right (length w) h in
      let apart : (start + run) * length w ≡ start * length w + run * length w = omega arith in
      omega (arith, room, apart, length-contents ring eq0 w)

  -- the moved weights of a run: before the others stands the one before them
  shifted-run : (eq0 w : List R) (start run : ℕ) → 0 < run → 0 < length w → start + run ≤ length eq0
      → run_of (length w) start run (shifted ring (contents ring eq0 w)) ≡ moved_up (row_weight ring (length w) start (shifted ring (contents ring eq0 w))) (contents ring (take run (drop start eq0)) w)
  shifted-run eq0 w start run some wide h =
      let n = length w in
      let c = contents ring eq0 w in
      moved_up-slice 𝟘 𝟘 (start * n) (run * n) c (mul-pos some wide) (within_contents eq0 w start run h)
      ∙ ap (moved_up (row_weight ring n start (shifted ring c))) (contents-run ring eq0 w start run)

  -- the weight before a run that is not the first: the last one of the entry before it
  pub row_weight-shifted : (eq0 w : List R) (start : ℕ) (x last border : R) → 0 < start → start < length eq0 → 0 < length w
      → x ≡ get_or eq0 (start - 1) x → last ≡ get_or w (length w - 1) 𝟘 → border ≡ x ⊗ last
      → border ≡ row_weight ring (length w) start (shifted ring (contents ring eq0 w))
  row_weight-shifted eq0 w zero x last border later h wide at_x at_last made = absurd (omega arith)
  row_weight-shifted eq0 w (suc k) x last border later h wide at_x at_last made =
      let n = length w in
      let c = contents ring eq0 w in
      let before : suc k * n ≡ suc (k * n + (n - 1)) = omega (arith, wide) in
      let place : k < length eq0 = omega (arith, h) in
      let last_place : n - 1 < n = omega (arith, wide) in
      let room = within_contents eq0 w (suc k) 1 (omega (arith, h)) in
      let one : 1 * n ≡ n = omega arith in
      let before_it : suc k - 1 ≡ k = omega arith in
      made
      ∙ ap (λ t. x ⊗ t) at_last
      ∙ ap (λ t. t ⊗ get_or w (n - 1) 𝟘) (at_x ∙ ap (λ j. get_or eq0 j x) before_it ∙ get_or_default eq0 k x 𝟘 place)
      ∙ sym (get_or-contents_row ring eq0 w k (n - 1) place last_place)
      ∙ sym (get_or-moved_up 𝟘 𝟘 (k * n + (n - 1)) c (omega (arith, room, before, one, wide)))
      ∙ ap (λ j. get_or (shifted ring c) j 𝟘) (sym before)

  -- a row of the weight before, and then the rows that are moved up from nothing
  plus_rows-border : (old w e between : List R) (x : R) → between ≡ plus_rows ring old (x ∷ []) e → plus_rows ring between (shifted ring w) e ≡ plus_rows ring old (moved_up x w) e
  plus_rows-border old w e between x is =
      let s = length old in
      let b = take (length w - 1) w in
      let one : s ≡ 1 * s = omega arith in
      let long : length between ≡ s = ap length is ∙ length-plus_rows ring laws old (x ∷ []) e in
      plus_rows-shifted ring laws between w e
      ∙ sym (plus_rows-take ring laws between b (drop (length between) e) s long)
      ∙ ap (λ l. plus_rows ring l b (take (length b * s) (drop (length between) e))) is
      ∙ ap (λ k. plus_rows ring (plus_rows ring old (x ∷ []) e) b (take (length b * s) (drop k e))) (long ∙ one)
      ∙ plus_rows-append ring laws old (x ∷ []) b e s refl

  -- rows that are added up from zeros, and then added
  pub plus_rows-from_zeros : (old w e : List R) → zip2 ring.sum old (plus_rows ring (replicate (length old) 𝟘) w e) ≡ plus_rows ring old w e
  plus_rows-from_zeros old w e =
      let s = length old in
      let zeros = replicate s 𝟘 in
      let zeroed = plus_rows ring zeros w e in
      let wide : length (replicate (length old) 𝟘) ≡ length old = length-replicate s 𝟘 in
      let long : length (plus_rows ring (replicate (length old) 𝟘) w e) ≡ length old = length-plus_rows ring laws zeros w e ∙ wide in
      let both : length (zip2 ring.sum old (plus_rows ring (replicate (length old) 𝟘) w e)) ≡ length old = length-zip2 ring.sum old zeroed (sym long) in
      ext_get_or 𝟘 (zip2 ring.sum old zeroed) (plus_rows ring old w e) (both ∙ sym (length-plus_rows ring laws old w e))
      (λ z q.
      let place : z < length old = omega (arith, both) in
      get_or-zip2 ring.sum old zeroed z 𝟘 𝟘 𝟘 place (omega (arith, long))
      ∙ ap (λ t. get_or old z 𝟘 ⊕ t)
      (get_or-plus_rows ring laws zeros w e z (omega (arith, wide))
      ∙ ap (λ t. t ⊕ sum_below ring (length w) (λ y. get_or w y 𝟘 ⊗ get_or e (y * length zeros + z) 𝟘)) (get_or-replicate s z 𝟘 𝟘 place)
      ∙ laws.zero_sum _
      ∙ ap (λ k. sum_below ring (length w) (λ y. get_or w y 𝟘 ⊗ get_or e (y * k + z) 𝟘)) wide)
      ∙ sym (get_or-plus_rows ring laws old w e z place))

  -- one more run of the weights and of its rows
  pub plus_rows-run_more : (old v e between sums rows : List R) (n m l i run s : ℕ) → length v ≡ m * n → length old ≡ s → i * l + run ≤ m → run ≤ l → (run ≡ l) ⊎ (m ≤ i * l + run)
      → between ≡ plus_rows ring old (take (i * l * n) v) e
      → rows ≡ run_of (n * s) (i * l) run e
      → sums ≡ plus_rows ring (replicate (length between) 𝟘) (run_of n (i * l) run v) rows
      → zip2 ring.sum between sums ≡ plus_rows ring old (take ((i + 1) * l * n) v) e
  plus_rows-run_more old v e between sums rows n m l i run s size is room short end so_far at_rows made =
      let a = i * l in
      let part = run_of n (i * l) run v in
      let fits : (i * l + run) * n ≤ m * n = mul-le-mul_right n room in
      let apart : (i * l + run) * n ≡ i * l * n + run * n = omega arith in
      let first : length (take (i * l * n) v) ≡ i * l * n = length-take-le (a * n) v (omega (arith, fits, apart, size)) in
      let left : run * n ≤ length (drop (i * l * n) v) = omega (arith, length-drop (a * n) v, fits, apart, size) in
      let many : length (run_of n (i * l) run v) ≡ run * n = length-take-le (run * n) (drop (a * n) v) left in
      ap (zip2 ring.sum between) made
      ∙ plus_rows-from_zeros between part rows
      ∙ ap (λ l. plus_rows ring l part rows) so_far
      ∙ ap (plus_rows ring (plus_rows ring old (take (a * n) v) e) part) (at_rows ∙ ap (λ k. take k (drop (a * (n * s)) e)) (sym (mul_assoc run n s) ∙ ap (λ k. k * s) (sym many)) ∙ ap (λ k. take (length part * s) (drop k e)) (sym (mul_assoc a n s) ∙ ap (λ k. k * s) (sym first)))
      ∙ plus_rows-append ring laws old (take (a * n) v) part e s is
      ∙ ap (λ u. plus_rows ring old u e) (sym (take-add (a * n) (run * n) v) ∙ ap (λ k. take k v) (sym apart) ∙ next end)
    where
      next : (run ≡ l) ⊎ (m ≤ i * l + run) → take ((i * l + run) * n) v ≡ take ((i + 1) * l * n) v
      next (inl same) = ap (λ k. take k v) (ap (λ k. k * n) (ap (λ k. i * l + k) same ∙ omega arith))
      next (inr whole) =
          let all : m * n ≤ (i * l + run) * n = mul-le-mul_right n whole in
          let past : m ≤ (i + 1) * l = omega (arith, whole, short) in
          let more : m * n ≤ (i + 1) * l * n = mul-le-mul_right n past in
          take_past ((i * l + run) * n) ((i + 1) * l * n) v (omega (arith, size, all)) (omega (arith, size, more))

  -- a run of the first half, as a slice of it, with the moved weights
  shifted-run_added : (eq0 w half old between new e : List R) (start run : ℕ) → 0 < run → 0 < length w → start + run ≤ length eq0
      → half ≡ take (start + run - start) (drop start eq0)
      → between ≡ plus_rows ring old (row_weight ring (length w) start (shifted ring (contents ring eq0 w)) ∷ []) e
      → new ≡ plus_rows ring between (shifted ring (contents ring half w)) e
      → new ≡ plus_rows ring old (run_of (length w) start run (shifted ring (contents ring eq0 w))) e
  shifted-run_added eq0 w half old between new e start run some wide h at_half first made =
      made
      ∙ ap (λ k. plus_rows ring between (shifted ring (contents ring k w)) e) (sliced start run eq0 half at_half)
      ∙ plus_rows-border old (contents ring (take run (drop start eq0)) w) e between (row_weight ring (length w) start (shifted ring (contents ring eq0 w))) first
      ∙ ap (λ v. plus_rows ring old v e) (sym (shifted-run eq0 w start run some wide h))

  -- places that are their own only lanes
  by_only_lanes : (old v e new : List R) → new ≡ plus_rows ring old v e → logical (λ x. x ∷ []) new ≡ plus_rows ring (logical (λ x. x ∷ []) old) v e
  by_only_lanes old v e new made = own_lanes new ∙ made ∙ ap (λ o. plus_rows ring o v e) (sym (own_lanes old))

  -- before the first run there is none
  pub plus_rows-no_border : (old e w : List R) (n start : ℕ) → start ≡ 0 → old ≡ plus_rows ring old (row_weight ring n start (shifted ring w) ∷ []) e
  plus_rows-no_border old e w n start is =
      let none : start * n ≡ 0 = ap (λ k. k * n) is ∙ omega arith in
      sym (ap (λ k. plus_rows ring old (get_or (shifted ring w) k 𝟘 ∷ []) e) none ∙ plus_rows-zero ring laws old e)

  -- one row, of a slice that begins with it
  pub plus_rows-first : (old e first : List R) (x y : R) → x ≡ y → first ≡ take (length old) e → plus_rows ring old (x ∷ []) first ≡ plus_rows ring old (y ∷ []) e
  plus_rows-first old e first x y same at_first =
      let one : length old ≡ 1 * length old = omega arith in
      ap (λ t. plus_rows ring old (t ∷ []) first) same
      ∙ ap (plus_rows ring old (y ∷ [])) (at_first ∙ ap (λ k. take k e) one)
      ∙ plus_rows-take ring laws old (y ∷ []) e (length old) refl

-- the table of a slice of the first half is a run of the whole table
pub run_of_slice : {R : Type 0} (ring : Ring R) (eq0 w : List R) (start run : ℕ) → contents ring (take (start + run - start) (drop start eq0)) w ≡ run_of (length w) start run (contents ring eq0 w)
run_of_slice ring eq0 w start run = ap (λ h. contents ring h w) (sliced start run eq0 (take (start + run - start) (drop start eq0)) refl) ∙ sym (contents-run ring eq0 w start run)

pub length_of_slice : {A : Type 0} (start run : ℕ) (xs : List A) → start + run ≤ length xs → length (take (start + run - start) (drop start xs)) ≡ run
length_of_slice start run xs h =
    let left : run ≤ length (drop start xs) = omega (arith, length-drop start xs, h) in
    ap length (sliced start run xs (take (start + run - start) (drop start xs)) refl) ∙ length-take-le run (drop start xs) left

-- a run of the moved table, after the weight before it
pub shifted_run : {R : Type 0} (ring : Ring R) (eq0 w old between new e : List R) (start run : ℕ) → RingLaws ring → 0 < run → 0 < length w → start + run ≤ length eq0
    → between ≡ plus_rows ring old (row_weight ring (length w) start (shifted ring (contents ring eq0 w)) ∷ []) e
    → new ≡ plus_rows ring between (shifted ring (contents ring (take (start + run - start) (drop start eq0)) w)) e
    → logical (λ x. x ∷ []) new ≡ plus_rows ring (logical (λ x. x ∷ []) old) (run_of (length w) start run (shifted ring (contents ring eq0 w))) e
shifted_run ring eq0 w old between new e start run laws some wide h first made =
    by_only_lanes ring laws old (run_of (length w) start run (shifted ring (contents ring eq0 w))) e new
    (shifted-run_added ring laws eq0 w (take (start + run - start) (drop start eq0)) old between new e start run some wide h refl first made)

-- where a run starts there is an entry
pub run-starts : (count l i : ℕ) → 0 < l → i < div_ceil count l → i * l < count
run-starts count l i some h =
    let bound = div_ceil_times count l some in
    let step : (i + 1) * l ≤ div_ceil count l * l = mul-le-mul_right l (let le : i + 1 ≤ div_ceil count l = omega arith in le) in
    let next : (i + 1) * l ≡ i * l + l = omega arith in
    omega (arith, bound.1, step, next)

-- the runs reach the end
pub run-ends : (count l k : ℕ) → 0 < l → div_ceil count l ≤ k → count ≤ k * l
run-ends count l k some h =
    let bound = div_ceil_times count l some in
    let all : div_ceil count l * l ≤ k * l = mul-le-mul_right l h in
    omega (arith, bound.0, all)

-- a run has the length that is asked for, or all entries that are left
pub run-some : (l left : ℕ) → 0 < l → 0 < left → 0 < min l left
run-some l left some more = le-min {k = 1} {a = l} {b = left} (omega arith) (omega arith)

run-end : (l left : ℕ) → (min l left ≡ l) ⊎ (left ≤ min l left)
run-end l left = from (cases_lt l left)
  where
    from : (l < left) ⊎ (left ≤ l) → (min l left ≡ l) ⊎ (left ≤ min l left)
    from (inl less) = inl (min-eq_left {n = l} {m = left} (omega arith))
    from (inr more) = inr (le-min {k = left} {a = l} {b = left} more (omega arith))

pub run-closes : (m a l run : ℕ) → run ≡ min l (m - a) → a < m → (run ≡ l) ⊎ (m ≤ a + run)
run-closes m a l run is begins = from (run-end l (m - a))
  where
    from : (min l (m - a) ≡ l) ⊎ (m - a ≤ min l (m - a)) → (run ≡ l) ⊎ (m ≤ a + run)
    from (inl whole) = inl (is ∙ whole)
    from (inr last) = inr (omega (arith, is, last, begins))

pub map-run : {A B : Type 0} (f : A → B) (xs ys : List A) (n start run : ℕ) → ys ≡ run_of n start run xs → map f ys ≡ run_of n start run (map f xs)
map-run f xs ys n start run is = ap (map f) is ∙ sym (take-map f (run * n) (drop (start * n) xs)) ∙ ap (take (run * n)) (sym (drop-map f (start * n) xs))

-- a run of all entries
pub run-whole : {A : Type 0} (xs : List A) (n m : ℕ) → length xs ≡ m * n → run_of n 0 m xs ≡ xs
run-whole xs n m size =
    let none : 0 * n ≡ 0 = omega arith in
    ap (λ k. take (m * n) (drop k xs)) none ∙ take_all (m * n) xs (omega (arith, size))

-- the rows of a run lie within the values
rows-within : (count run start n m : ℕ) → start + run ≤ count → m ≡ count * n → start * n + run * n ≤ m
rows-within count run start n m h is =
    let room : (start + run) * n ≤ count * n = mul-le-mul_right n h in
    let apart : (start + run) * n ≡ start * n + run * n = omega arith in
    omega (arith, room, apart, is)

pub length-run : {A : Type 0} (xs : List A) (count start run n : ℕ) → start + run ≤ count → length xs ≡ count * n → length (run_of n start run xs) ≡ run * n
length-run xs count start run n h is =
    length-take-le (run * n) (drop (start * n) xs) (omega (arith, length-drop (start * n) xs, rows-within count run start n (length xs) h is))

-- the slice that the number of rows gives
pub run-slice : {A : Type 0} (xs : List A) (count start run n : ℕ) → 0 < run → start + run ≤ count → length xs ≡ count * n
    → take ((start + run) * (length xs / count) - start * (length xs / count)) (drop (start * (length xs / count)) xs) ≡ run_of n start run xs
run-slice xs count start run n some h is =
    let width = row-width (length xs) count n start (omega (arith, some, h)) is in
    let many : (start + run) * n - start * n ≡ run * n = omega arith in
    ap (λ k. take ((start + run) * k - start * k) (drop (start * k) xs)) width ∙ ap (λ k. take k (drop (start * n) xs)) many

module _ {P R : Type 0} (packed : Ring P) (ring : Ring R) (laws : RingLaws ring) (lanes : P → List R) (width : ℕ) (long : (p : P) → length (lanes p) ≡ width) (each : IsLaneByLane width lanes packed ring) where
  -- one more run is added up from zeros, and then added to the output
  pub run-more : (v e old rows : List R) (outs zeros added sums : List P) (n m l i run s k : ℕ)
      → length v ≡ m * n → length old ≡ s → i * l + run ≤ m → run ≤ l → (run ≡ l) ⊎ (m ≤ i * l + run)
      → zeros ≡ replicate k packed.zero → k ≡ length outs → length added ≡ length outs
      → logical lanes outs ≡ plus_rows ring old (take (i * l * n) v) e
      → rows ≡ run_of (n * s) (i * l) run e
      → logical lanes added ≡ plus_rows ring (logical lanes zeros) (run_of n (i * l) run v) rows
      → sums ≡ zip2 packed.sum outs added
      → logical lanes sums ≡ plus_rows ring old (take ((i + 1) * l * n) v) e
  run-more v e old rows outs zeros added sums n m l i run s k size is room short end zeroed count same so_far at_rows made total =
      let places : k * width ≡ length (logical lanes outs) = ap (λ j. j * width) count ∙ sym (length-logical lanes width long outs) in
      let from : logical lanes zeros ≡ replicate (length (logical lanes outs)) ring.zero =
      ap (logical lanes) zeroed ∙ logical-replicate lanes width k packed.zero ring.zero each.zero ∙ ap (λ j. replicate j ring.zero) places in
      ap (logical lanes) total
      ∙ logical-sums packed ring lanes width long each outs added (sym same)
      ∙ plus_rows-run_more ring laws old v e (logical lanes outs) (logical lanes added) rows n m l i run s size is room short end so_far at_rows
      (made ∙ ap (λ z. plus_rows ring z (run_of n (i * l) run v) rows) from)

-- a run has a row
pub first_row : (run n o m : ℕ) → 0 < run → 0 < n → m ≡ run * (n * (o * 1)) → o ≤ m
first_row zero n o m h q is = absurd (omega arith)
first_row (suc run) zero o m h q is = absurd (omega arith)
first_row (suc run) (suc n) o m h q is = omega (arith, is)

-- the length of a run of something is not 0
pub run-length-some : (count parts : ℕ) → 0 < parts → 0 < count → 0 < div_ceil count parts
run-length-some count parts some more = not-zero (div_ceil count parts) (div_ceil_times count parts some).0
  where
    not-zero : (k : ℕ) → count ≤ k * parts → 0 < k
    not-zero zero h = absurd (omega (arith, h, more))
    not-zero (suc k) h = omega arith
