-- The lanes of packed values, joined in order: blocks as long as the width.
use Rattle.std.proofs.Common.{◌≡◌, ℕ, zero, suc, ◌+◌, ◌*◌, ◌<◌, ◌≤◌, List, [], ◌∷◌, ◌++◌, length, take, drop, set, get_or, replicate, refl, sym, ap, ◌∙◌, arith, length-append, append_assoc}
use Rattle.std.specs.Simd.Lanes.{zip2}
use Rattle.std.proofs.Math.Nat.{mul-le-mul_right, add_comm, zero-mul, suc-mul}
use Rattle.std.proofs.Math.Seq.{take-add, take-append-add, take-append_seam, drop-append-add, drop-append_seam, take-nil, drop-nil}
use Rattle.std.proofs.lemmas.Grind.{flat_map-append}
use Rattle.std.proofs.lemmas.List.{get_or_append_left, get_or-append-add, take_more, append-nil, replicate-append-replicate}
use Rattle.mlu_ring.specs.Lanes.{logical}
use Rattle.mlu_ring.proofs.Zips.{zip_more}

module _ {P V : Type 0} (lanes : P → List V) (n : ℕ) (long : (p : P) → length (lanes p) ≡ n) where
  pub length-logical : (ps : List P) → length (logical lanes ps) ≡ length ps * n
  length-logical [] = omega arith
  length-logical (p ∷ ps) =
      let rest = length-logical ps in
      length-append (lanes p) (logical lanes ps) ∙ omega (arith, long p)

  pub take-logical : (ps : List P) (i : ℕ) → take (i * n) (logical lanes ps) ≡ logical lanes (take i ps)
  take-logical ps zero = let none : zero * n ≡ 0 = omega arith in ap (λ k. take k (logical lanes ps)) none
  take-logical [] (suc i) = take-nil (suc i * n)
  take-logical (p ∷ ps) (suc i) =
      let at : suc i * n ≡ length (lanes p) + i * n = omega (arith, long p) in
      ap (λ k. take k (lanes p ++ logical lanes ps)) at ∙ take-append-add (lanes p) (logical lanes ps) (i * n) ∙ ap (λ vs. lanes p ++ vs) (take-logical ps i)

  pub drop-logical : (ps : List P) (i : ℕ) → drop (i * n) (logical lanes ps) ≡ logical lanes (drop i ps)
  drop-logical ps zero = let none : zero * n ≡ 0 = omega arith in ap (λ k. drop k (logical lanes ps)) none
  drop-logical [] (suc i) = drop-nil (suc i * n)
  drop-logical (p ∷ ps) (suc i) =
      let at : suc i * n ≡ length (lanes p) + i * n = omega (arith, long p) in
      ap (λ k. drop k (lanes p ++ logical lanes ps)) at ∙ drop-append-add (lanes p) (logical lanes ps) (i * n) ∙ drop-logical ps i

  -- the block at i is the lanes of the value there
  pub block-logical : (ps : List P) (i : ℕ) (p : P) → i < length ps → take n (drop (i * n) (logical lanes ps)) ≡ lanes (get_or ps i p)
  block-logical [] i p h = absurd (omega arith)
  block-logical (q ∷ ps) zero p h =
      let none : zero * n ≡ 0 = omega arith in
      rw (none, ← long q) (take-append_seam (lanes q) (logical lanes ps))
  block-logical (q ∷ ps) (suc i) p h =
      let at : suc i * n ≡ length (lanes q) + i * n = omega (arith, long q) in
      ap (λ k. take n (drop k (lanes q ++ logical lanes ps))) at ∙ ap (λ vs. take n vs) (drop-append-add (lanes q) (logical lanes ps) (i * n)) ∙ block-logical ps i p (omega arith)

  -- one more value
  pub logical-take_more : (ps : List P) (i : ℕ) (p : P) → i < length ps → logical lanes (take (i + 1) ps) ≡ logical lanes (take i ps) ++ lanes (get_or ps i p)
  logical-take_more ps i p h =
      ap (logical lanes) (take_more ps i p h)
      ∙ flat_map-append lanes (take i ps) (get_or ps i p ∷ [])
      ∙ ap (λ vs. logical lanes (take i ps) ++ vs) (append-nil (lanes (get_or ps i p)))

  -- one value is replaced
  pub logical-set : (ps : List P) (i : ℕ) (p : P) → i < length ps → logical lanes (set ps i p) ≡ take (i * n) (logical lanes ps) ++ (lanes p ++ drop (i * n + n) (logical lanes ps))
  logical-set [] i p h = absurd (omega arith)
  logical-set (q ∷ ps) zero p h =
      let none : zero * n ≡ 0 = omega arith in
      let at : zero * n + n ≡ length (lanes q) = omega (arith, long q) in
      rw (at, none, drop-append_seam) refl
  logical-set (q ∷ ps) (suc i) p h =
      let at : suc i * n ≡ length (lanes q) + i * n = omega (arith, long q) in
      let end : suc i * n + n ≡ length (lanes q) + (i * n + n) = omega (arith, long q) in
      rw (end, at, take-append-add, drop-append-add, append_assoc) (ap (λ vs. lanes q ++ vs) (logical-set ps i p (omega arith)))

  -- lane k of the value at i
  pub get_or-logical : (ps : List P) (i k : ℕ) (p : P) (d : V) → i < length ps → k < n → get_or (logical lanes ps) (i * n + k) d ≡ get_or (lanes (get_or ps i p)) k d
  get_or-logical [] i k p d h q = absurd (omega arith)
  get_or-logical (q ∷ ps) zero k p d h r =
      let at : zero * n + k ≡ k = omega arith in
      let within : k < length (lanes q) = omega (arith, long q) in
      ap (λ x. get_or (lanes q ++ logical lanes ps) x d) at ∙ get_or_append_left (lanes q) (logical lanes ps) d k within
  get_or-logical (q ∷ ps) (suc i) k p d h r =
      let at : suc i * n + k ≡ length (lanes q) + (i * n + k) = omega (arith, long q) in
      ap (λ x. get_or (lanes q ++ logical lanes ps) x d) at ∙ get_or-append-add (lanes q) (logical lanes ps) (i * n + k) d ∙ get_or-logical ps i k p d (omega arith) r

  -- the loop that writes f of two lists over the first, block by block: p is the value at i, and r is written
  pub zip_block_more : (f : V → V → V) (ps : List P) (xs ys : List V) (i : ℕ) (p r : P) → i < length ps → length xs ≡ length ps * n → length xs ≡ length ys
      → logical lanes ps ≡ zip2 f (take (i * n) xs) (take (i * n) ys) ++ drop (i * n) xs
      → p ≡ get_or ps i p → lanes r ≡ zip2 f (lanes p) (take n (drop (i * n) ys))
      → logical lanes (set ps i r) ≡ zip2 f (take ((i + 1) * n) xs) (take ((i + 1) * n) ys) ++ drop ((i + 1) * n) xs
  zip_block_more f ps xs ys i p r h many e is at_p made =
      let m = i * n in
      let part = λ (vs : List V). take m vs ++ (zip2 f (take n (drop m vs)) (take n (drop m ys)) ++ drop (m + n) vs) in
      let next : i * n + n ≡ (i + 1) * n = omega arith in
      let room : i * n + n ≤ length xs = rw (next, many) (mul-le-mul_right n (let le : i + 1 ≤ length ps = omega arith in le)) in
      logical-set ps i r h
      ∙ ap (λ vs. take m (logical lanes ps) ++ (vs ++ drop (m + n) (logical lanes ps))) (made ∙ ap (λ vs. zip2 f vs (take n (drop m ys))) (ap lanes at_p ∙ sym (block-logical ps i p h)))
      ∙ ap part is
      ∙ zip_more f xs ys m n room e
      ∙ ap (λ k. zip2 f (take k xs) (take k ys) ++ drop k xs) next

module _ {P V : Type 0} (lanes : P → List V) (n : ℕ) where
  -- the same in every lane
  pub logical-replicate : (m : ℕ) (p : P) (v : V) → lanes p ≡ replicate n v → logical lanes (replicate m p) ≡ replicate (m * n) v
  logical-replicate zero p v is = ap (λ k. replicate k v) (sym (zero-mul n))
  logical-replicate (suc m) p v is =
      ap (λ vs. vs ++ logical lanes (replicate m p)) is
      ∙ ap (λ vs. replicate n v ++ vs) (logical-replicate m p v is)
      ∙ replicate-append-replicate n (m * n) v
      ∙ ap (λ k. replicate k v) (add_comm n (m * n) ∙ sym (suc-mul m n))

  -- the lanes of one value more are the next run of a list
  pub lanes_more : (ps : List P) (p : P) (es : List V) (i : ℕ) → logical lanes ps ≡ take (i * n) es → lanes p ≡ take n (drop (i * n) es) → logical lanes (ps ++ p ∷ []) ≡ take ((i + 1) * n) es
  lanes_more ps p es i done next =
      let more : i * n + n ≡ (i + 1) * n = omega arith in
      flat_map-append lanes ps (p ∷ [])
      ∙ ap (λ vs. logical lanes ps ++ vs) (append-nil (lanes p))
      ∙ (λ j. done j ++ next j)
      ∙ sym (take-add (i * n) n es)
      ∙ ap (λ k. take k es) more
