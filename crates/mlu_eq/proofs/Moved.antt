-- A step from each row to the next one, added to an output: whole groups of lanes, and a shorter rest.
use Rattle.std.proofs.Common.{◌≡◌, ℕ, zero, suc, ◌+◌, ◌-◌, ◌*◌, ◌<◌, ◌≤◌, List, [], ◌∷◌, ◌++◌, map, length, take, drop, set, get_or, append_assoc, refl, sym, ap, ◌∙◌, arith}
use Rattle.std.specs.Simd.Lanes.{zip2}
use Rattle.std.proofs.Math.Seq.{take-append-add, take-length, drop-length}
use Rattle.std.proofs.lemmas.List.{length-map, length-take-le, length-drop, map-append, take-map, append-nil, take-append-drop, take-append-le}
use Rattle.mlu_ring.specs.Ring.{Ring, RingLaws}
use Rattle.mlu_ring.specs.Lanes.{logical}
use Rattle.mlu_ring.specs.Successor.{moved_up}
use Rattle.mlu_ring.proofs.Logical.{length-logical}
use Rattle.mlu_ring.proofs.Zips.{zip2-append}

module _ {P V : Type 0} (lanes : P → List V) (n : ℕ) (long : (p : P) → length (lanes p) ≡ n) where
  -- the lanes of q values, and the first k of the next one
  pub take-lanes : (ps : List P) (q k : ℕ) (p : P) → q < length ps → k ≤ n → take (q * n + k) (logical lanes ps) ≡ logical lanes (take q ps) ++ take k (lanes (get_or ps q p))
  take-lanes [] q k p h le = absurd (omega arith)
  take-lanes (r ∷ ps) zero k p h le =
      let at : zero * n + k ≡ k = omega arith in
      ap (λ m. take m (lanes r ++ logical lanes ps)) at ∙ take-append-le k (lanes r) (logical lanes ps) (omega (arith, long r, le))
  take-lanes (r ∷ ps) (suc q) k p h le =
      let at : suc q * n + k ≡ length (lanes r) + (q * n + k) = omega (arith, long r) in
      ap (λ m. take m (lanes r ++ logical lanes ps)) at
      ∙ take-append-add (lanes r) (logical lanes ps) (q * n + k)
      ∙ ap (λ vs. lanes r ++ vs) (take-lanes ps q k p (omega arith) le)
      ∙ sym (append_assoc (lanes r) (logical lanes (take q ps)) (take k (lanes (get_or ps q p))))

  -- a row in two parts of which each meets its lanes, whole groups and the first lanes of the next one, meets them all
  pub zip_leading : (f : V → V → V) (h : V → V) (row whole rest : List V) (ps : List P) (q m : ℕ) (p : P) → q < length ps → p ≡ get_or ps q p → m ≡ q * n → m ≤ length row → whole ≡ take m row → rest ≡ drop m row → length rest ≤ n
      → zip2 f whole (map h (logical lanes (take q ps))) ++ zip2 f rest (map h (take (length rest) (lanes p))) ≡ zip2 f row (map h (take (length row) (logical lanes ps)))
  zip_leading f h row whole rest ps q m p within at_p is fits at_whole at_rest short =
      let groups = logical lanes (take q ps) in
      let first = take (length rest) (lanes p) in
      let left : length rest ≡ length row - m = ap length at_rest ∙ length-drop m row in
      let places : length whole ≡ m = ap length at_whole ∙ length-take-le m row fits in
      let le : q ≤ length ps = omega (arith, within) in
      let many : length (map h groups) ≡ m = length-map groups h ∙ length-logical lanes n long (take q ps) ∙ ap (λ k. k * n) (length-take-le q ps le) ∙ sym is in
      let end : length row ≡ q * n + length rest = omega (arith, left, fits, is) in
      let all = ap (λ k. take k (logical lanes ps)) end ∙ take-lanes ps q (length rest) p within short ∙ ap (λ r. groups ++ take (length rest) (lanes r)) (sym at_p) in
      let joined = ap (λ vs. vs ++ rest) at_whole ∙ ap (λ vs. take m row ++ vs) at_rest ∙ take-append-drop m row in
      sym (zip2-append f whole rest (map h groups) (map h first) (places ∙ sym many))
      ∙ ap (λ vs. zip2 f vs (map h groups ++ map h first)) joined
      ∙ ap (λ vs. zip2 f row vs) (sym (map-append h groups first))
      ∙ ap (λ vs. zip2 f row (map h vs)) (sym all)

-- a group that begins before the end of m groups is one of them
pub group_within : (q m n r : ℕ) → q * n ≤ r → r < m * n → q < m
group_within q zero n r h k = absurd (omega (arith, k))
group_within zero (suc m) n r h k = omega arith
group_within (suc q) (suc m) n r h k =
    let before : q < m = group_within q m n (r - n) (omega (arith, h)) (omega (arith, h, k)) in
    omega (arith, before)

module _ {V W : Type 0} (f : V → W → V) where
  -- the first place takes t, and each of the later ones, written over, the weight before its own
  pub zip_moved : (h : W → W) (out written : List V) (w : List W) (n : ℕ) (t : W) (x s : V) → 0 < n → n ≡ length w → length out ≡ length w → x ≡ get_or out 0 x → s ≡ f x t
      → written ≡ zip2 f (take (n - 1) (drop 1 (set out 0 s))) (map h (take (length (take (n - 1) (drop 1 (set out 0 s)))) w))
      → take 1 (set out 0 s) ++ (written ++ drop (n - 1) (drop 1 (set out 0 s))) ≡ zip2 f out (moved_up t (map h w))
  zip_moved h [] written w n t x s some is e at_x made at = absurd (omega (arith, some, is, e))
  zip_moved h (y ∷ ys) written w n t x s some is e at_x made at =
      let size : length ys ≡ n - 1 = omega (arith, e, some, is) in
      let before : length ys ≡ length (map h w) - 1 = omega (arith, size, is, length-map w h) in
      let whole = ap (λ k. take k ys) (sym size) ∙ take-length ys in
      let none = ap (λ k. drop k ys) (sym size) ∙ drop-length ys in
      let rows = at ∙ ap (λ l. zip2 f l (map h (take (length l) w))) whole ∙ ap (λ l. zip2 f ys l) (sym (take-map h (length ys) w) ∙ ap (λ k. take k (map h w)) before) in
      ap (λ v. v ∷ written ++ drop (n - 1) ys) (made ∙ ap (λ v. f v t) at_x)
      ∙ ap (λ l. f y t ∷ written ++ l) none
      ∙ ap (λ l. f y t ∷ l) (append-nil written ∙ rows)

module _ {R : Type 0} (ring : Ring R) (laws : RingLaws ring) where
  -- two lists are added one after the other
  pub zip_sums : (xs ys zs : List R) → zip2 ring.sum (zip2 ring.sum xs ys) zs ≡ zip2 ring.sum xs (zip2 ring.sum ys zs)
  zip_sums [] [] zs = refl
  zip_sums [] (y ∷ ys) [] = refl
  zip_sums [] (y ∷ ys) (z ∷ zs) = refl
  zip_sums (x ∷ xs) [] zs = refl
  zip_sums (x ∷ xs) (y ∷ ys) [] = refl
  zip_sums (x ∷ xs) (y ∷ ys) (z ∷ zs) =
      let first = laws.sum_assoc x y z in
      let rest = zip_sums xs ys zs in
      cc (first, rest)
