-- A table of packed weights without its last lane: whole groups, and the first lanes of the last one.
use Rattle.std.proofs.Common.{◌≡◌, ℕ, zero, suc, ◌+◌, ◌-◌, ◌*◌, ◌<◌, ◌≤◌, List, ◌++◌, length, map, take, drop, get_or, sym, ap, ◌∙◌, arith}
use Rattle.std.proofs.Math.Nat.{le-mul_of_pos_right}
use Rattle.std.proofs.Math.Seq.{take-append-add}
use Rattle.std.proofs.lemmas.List.{length-map, length-take-le, take_all, take-map, map-append}
use Rattle.mlu_ring.specs.Ring.{Ring, RingLaws}
use Rattle.mlu_ring.specs.Lanes.{logical}
use Rattle.mlu_ring.specs.Tables.{pair}
use Rattle.mlu_ring.proofs.Logical.{length-logical, logical-take_more}
use Rattle.mlu_ring.proofs.Totals.{pair-append, pair-take}
use Rattle.mlu_kernel.specs.Kernels.{plus_rows}
use Rattle.mlu_kernel.proofs.PlusRows.{plus_rows-append, length-plus_rows}
use Rattle.mlu_eq.proofs.Shifted.{plus_rows-take}

one-less : (m : ℕ) → m ≡ suc m - 1
one-less m = omega arith

one-row : (m w : ℕ) → suc m * w ≡ m * w + w
one-row m w = omega arith

row-apart : (x v o : ℕ) → (x + (v + 1)) * o ≡ (x * o + v * o) + o
row-apart x v o = omega arith

-- the rows of all lanes but the last, in two parts
pub rows_but_last : (m w o r : ℕ) → 0 < m → 0 < w → r + o ≡ m * w * o → r ≡ (m - 1) * w * o + (w - 1) * o
rows_but_last zero w o r some wide h = absurd (omega arith)
rows_but_last (suc m) w o r some wide h =
    let lanes : w ≡ (w - 1) + 1 = omega (arith, wide) in
    let all = ap (λ k. k * o) (one-row m w ∙ ap (λ k. m * w + k) lanes) ∙ row-apart (m * w) (w - 1) o in
    let rest : r ≡ m * w * o + (w - 1) * o = omega (arith, h, all) in
    rest ∙ ap (λ k. k * w * o + (w - 1) * o) (one-less m)

pub groups_within : (k o r n : ℕ) → 0 < o → r ≡ k * o + n → k ≤ r
groups_within k o r n some h =
    let room = le-mul_of_pos_right k some in
    omega (arith, room, h)

-- the lanes of all weights but the last, in two parts
pub lanes_but_last : (m w r : ℕ) → 0 < w → r + 1 ≡ m * w → r ≡ (m - 1) * w + (w - 1)
lanes_but_last zero w r wide h = absurd (omega (arith, h))
lanes_but_last (suc m) w r wide h =
    let rest : r ≡ m * w + (w - 1) = omega (arith, h, wide, one-row m w) in
    rest ∙ ap (λ k. k * w + (w - 1)) (one-less m)

-- lists of n lanes
module _ {P V : Type 0} (lanes : P → List V) (n : ℕ) (long : (p : P) → length (lanes p) ≡ n) where
  -- the first lanes: those of whole groups and k of the next
  pub logical-leading : (ps : List P) (i k : ℕ) (p : P) → length ps ≡ i + 1 → p ≡ get_or ps i p → take (i * n + k) (logical lanes ps) ≡ logical lanes (take i ps) ++ take k (lanes p)
  logical-leading ps i k p size at_p =
      let whole = logical lanes (take i ps) in
      let many : length (logical lanes (take i ps)) ≡ i * n = length-logical lanes n long (take i ps) ∙ ap (λ m. m * n) (length-take-le i ps (omega (arith, size))) in
      ap (λ qs. take (i * n + k) (logical lanes qs)) (sym (take_all (i + 1) ps (omega (arith, size))))
      ∙ ap (take (i * n + k)) (logical-take_more lanes n long ps i p (omega (arith, size)) ∙ ap (λ q. whole ++ lanes q) (sym at_p))
      ∙ ap (λ m. take (m + k) (whole ++ lanes p)) (sym many)
      ∙ take-append-add whole (lanes p) k

module _ {P R : Type 0} (ring : Ring R) (laws : RingLaws ring) (lanes : P → List R) (n : ℕ) (long : (p : P) → length (lanes p) ≡ n) where
  infixl 50 ◌⊕◌
  open ring use {sum as ◌⊕◌}

  -- the dot of the first lanes: that of the whole groups, and that of the first lanes of the next
  pub pair-leading : (ps : List P) (e whole rest : List R) (i k : ℕ) (p : P) → length ps ≡ i + 1 → p ≡ get_or ps i p → whole ≡ take (i * n) e → rest ≡ drop (i * n) e
      → pair ring (logical lanes (take i ps)) whole ⊕ pair ring (take k (lanes p)) rest ≡ pair ring (take (i * n + k) (logical lanes ps)) e
  pair-leading ps e whole rest i k p size at_p at_whole at_rest =
      let w = logical lanes (take i ps) in
      let many : length (logical lanes (take i ps)) ≡ i * n = length-logical lanes n long (take i ps) ∙ ap (λ m. m * n) (length-take-le i ps (omega (arith, size))) in
      ap (λ v. pair ring w v ⊕ pair ring (take k (lanes p)) rest) (at_whole ∙ ap (λ m. take m e) (sym many))
      ∙ ap (λ t. t ⊕ pair ring (take k (lanes p)) rest) (pair-take ring laws w e)
      ∙ ap (λ v. pair ring w e ⊕ pair ring (take k (lanes p)) v) (at_rest ∙ ap (λ m. drop m e) (sym many))
      ∙ sym (ap (λ v. pair ring v e) (logical-leading lanes n long ps i k p size at_p) ∙ pair-append ring laws w (take k (lanes p)) e)

  -- the rows of the first lanes, times a factor: those of the whole groups, and those of the first lanes of the next
  pub plus_rows-leading : (ps : List P) (old e first whole rest scaled : List R) (i k s : ℕ) (p : P) (x : R) → length ps ≡ i + 1 → p ≡ get_or ps i p → length old ≡ s → k ≤ n
      → scaled ≡ map (ring.product x) (lanes p) → whole ≡ take (i * n * s) e → rest ≡ drop (i * n * s) e
      → first ≡ plus_rows ring old (map (ring.product x) (logical lanes (take i ps))) whole
      → plus_rows ring first (take k scaled) rest ≡ plus_rows ring old (map (ring.product x) (take (i * n + k) (logical lanes ps))) e
  plus_rows-leading ps old e first whole rest scaled i k s p x size at_p is few at_scaled at_whole at_rest at_first =
      let f = ring.product x in
      let w = map f (logical lanes (take i ps)) in
      let u = map f (take k (lanes p)) in
      let many : length (map (ring.product x) (logical lanes (take i ps))) ≡ i * n = length-map (logical lanes (take i ps)) f ∙ length-logical lanes n long (take i ps) ∙ ap (λ m. m * n) (length-take-le i ps (omega (arith, size))) in
      let made : first ≡ plus_rows ring old w e =
      at_first ∙ ap (plus_rows ring old w) (at_whole ∙ ap (λ m. take (m * s) e) (sym many)) ∙ plus_rows-take ring laws old w e s is in
      let between : length (plus_rows ring old (map (ring.product x) (logical lanes (take i ps))) e) ≡ s = length-plus_rows ring laws old w e ∙ is in
      ap (λ l. plus_rows ring l (take k scaled) rest) made
      ∙ ap (λ v. plus_rows ring (plus_rows ring old w e) v rest) (ap (take k) at_scaled ∙ take-map f k (lanes p))
      ∙ ap (λ r. plus_rows ring (plus_rows ring old w e) u r) (at_rest ∙ ap (λ m. drop (m * s) e) (sym many))
      ∙ sym (plus_rows-take ring laws (plus_rows ring old w e) u (drop (length w * s) e) s between)
      ∙ plus_rows-append ring laws old w u e s is
      ∙ ap (λ v. plus_rows ring old v e) (sym (map-append f (logical lanes (take i ps)) (take k (lanes p))) ∙ ap (map f) (sym (logical-leading lanes n long ps i k p size at_p)))
