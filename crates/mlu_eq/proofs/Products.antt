-- Rows of slices, and sums of packed products.
use Rattle.std.proofs.Common.{◌≡◌, ℕ, ◌+◌, ◌-◌, ◌*◌, ◌<◌, ◌≤◌, List, [], ◌∷◌, ◌++◌, length, take, drop, sym, ap, ◌∙◌, arith}
use Rattle.std.proofs.Math.Seq.{take-append_seam, drop-append_seam}
use Rattle.std.proofs.lemmas.List.{length-take-le, length-drop}
use Rattle.std.proofs.Math.Nat.{mul_assoc}
use Rattle.mlu_ring.specs.Ring.{Ring, RingLaws}
use Rattle.mlu_ring.specs.Sums.{sum_of}
use Rattle.mlu_ring.specs.Tables.{pair}
use Rattle.mlu_ring.specs.Lanes.{IsLists, IsLaneByLane, logical}
use Rattle.mlu_ring.proofs.Logical.{take-logical, drop-logical}
use Rattle.mlu_ring.proofs.Rows.{row_end}
use Rattle.mlu_ring.proofs.Totals.{pair-nil, pair-cons, pair-append, pair-take, total-zero, total-sum, total-product}

-- block i of v elements, as a loop takes it out of a slice
pub block : {A : Type 0} (xs : List A) (i v : ℕ) → take (i * v + v - i * v) (drop (i * v) xs) ≡ take v (drop (i * v) xs)
block xs i v =
    let many : i * v + v - i * v ≡ v = omega arith in
    ap (λ k. take k (drop (i * v) xs)) many

-- the first of n rows, of which there are some
pub row_within : (n r m : ℕ) → 0 < n → m ≡ n * r → r ≤ m
row_within n r m some is = omega (arith, row_end 0 n r m some is)

pub length-block : {A : Type 0} (xs : List A) (i n r : ℕ) → i < n → length xs ≡ n * r → length (take r (drop (i * r) xs)) ≡ r
length-block xs i n r h is =
    let end = row_end i n r (length xs) h is in
    length-take-le r (drop (i * r) xs) (omega (arith, length-drop (i * r) xs, end))

module _ {P V : Type 0} (lanes : P → List V) (n : ℕ) (long : (p : P) → length (lanes p) ≡ n) where
  -- the lanes of a block of m packed values
  pub logical-block : (ps : List P) (j m : ℕ) → logical lanes (take m (drop (j * m) ps)) ≡ take (m * n) (drop (j * (m * n)) (logical lanes ps))
  logical-block ps j m =
      sym (take-logical lanes n long (drop (j * m) ps) m)
      ∙ ap (λ vs. take (m * n) vs) (sym (drop-logical lanes n long ps (j * m)))
      ∙ ap (λ k. take (m * n) (drop k (logical lanes ps))) (mul_assoc j m n)

-- the lanes of a sum of packed products
module _ {P V : Type 0} (packed : Ring P) (packed_laws : RingLaws packed) (ring : Ring V) (laws : RingLaws ring) (lanes : P → List V) (of_lanes : List V → P) (n : ℕ) (parts : IsLists n lanes of_lanes) (each : IsLaneByLane n lanes packed ring) where
  pub total-pair : (ps qs : List P) → length ps ≡ length qs → sum_of ring (lanes (pair packed ps qs)) ≡ pair ring (logical lanes ps) (logical lanes qs)
  total-pair [] [] h =
      ap (λ p. sum_of ring (lanes p)) (pair-nil packed packed_laws [])
      ∙ total-zero packed ring laws lanes of_lanes n parts each
      ∙ sym (pair-nil ring laws [])
  total-pair [] (q ∷ qs) h = absurd (omega arith)
  total-pair (p ∷ ps) [] h = absurd (omega arith)
  total-pair (p ∷ ps) (q ∷ qs) h =
      let e = lanes q ++ logical lanes qs in
      let same = parts.length-parts p ∙ sym (parts.length-parts q) in
      ap (λ x. sum_of ring (lanes x)) (pair-cons packed packed_laws p q ps qs)
      ∙ total-sum packed ring laws lanes of_lanes n parts each (packed.product p q) (pair packed ps qs)
      ∙ ap (λ t. ring.sum t (sum_of ring (lanes (pair packed ps qs)))) (total-product packed ring laws lanes of_lanes n parts each p q)
      ∙ ap (λ t. ring.sum (pair ring (lanes p) (lanes q)) t) (total-pair ps qs (omega arith))
      ∙ sym
      (pair-append ring laws (lanes p) (logical lanes ps) e
      ∙ ap (λ t. ring.sum t (pair ring (logical lanes ps) (drop (length (lanes p)) e)))
      (sym (pair-take ring laws (lanes p) e) ∙ ap (λ k. pair ring (lanes p) (take k e)) same ∙ ap (pair ring (lanes p)) (take-append_seam (lanes q) (logical lanes qs)))
      ∙ ap (λ t. ring.sum (pair ring (lanes p) (lanes q)) (pair ring (logical lanes ps) t))
      (ap (λ k. drop k e) same ∙ drop-append_seam (lanes q) (logical lanes qs)))
