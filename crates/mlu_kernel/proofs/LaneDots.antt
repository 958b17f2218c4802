-- Dots of packed weights, as values whose lanes add up to them.
use Rattle.std.proofs.Common.{◌≡◌, ℕ, ◌+◌, ◌*◌, ◌<◌, List, [], length, take, drop, get_or, ap, sym, ◌∙◌}
use Rattle.mlu_ring.specs.Ring.{Ring, RingLaws}
use Rattle.mlu_ring.specs.Lanes.{IsLists, IsLaneByLane, logical}
use Rattle.mlu_ring.specs.Sums.{sum_of}
use Rattle.mlu_ring.specs.Tables.{pair}
use Rattle.mlu_ring.proofs.Totals.{pair-nil, total-zero, total-dot_more}

module _ {P V : Type 0} (packed : Ring P) (ring : Ring V) (laws : RingLaws ring) (lanes : P → List V) (of_lanes : List V → P) (n : ℕ) (parts : IsLists n lanes of_lanes) (each : IsLaneByLane n lanes packed ring) where
  pub no_weight : (acc : P) (e : List V) → acc ≡ packed.zero → sum_of ring (lanes acc) ≡ pair ring [] e
  no_weight acc e is =
      ap (λ p. sum_of ring (lanes p)) is ∙ total-zero packed ring laws lanes of_lanes n parts each ∙ sym (pair-nil ring laws e)

  -- one more packed weight p, with q as its block of the entries
  pub one_more_weight : (acc p q pq sum : P) (ps : List P) (e : List V) (i : ℕ) → i < length ps → p ≡ get_or ps i p → lanes q ≡ take n (drop (i * n) e)
      → pq ≡ packed.product p q → sum ≡ packed.sum acc pq
      → sum_of ring (lanes acc) ≡ pair ring (logical lanes (take i ps)) e → sum_of ring (lanes sum) ≡ pair ring (logical lanes (take (i + 1) ps)) e
  one_more_weight acc p q pq sum ps e i h at_p at_q product added so_far =
      ap (λ t. sum_of ring (lanes t)) (added ∙ ap (packed.sum acc) product)
      ∙ total-dot_more packed ring laws lanes of_lanes n parts each acc p q ps e i h at_p at_q so_far
