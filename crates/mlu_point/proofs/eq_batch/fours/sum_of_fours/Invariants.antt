use Rattle.std.proofs.Common.{◌≡◌, drop}
use Rattle.mlu_ring.specs.Sums.{sum_of}
use Rattle.mlu_point.specs.Batches.{pair_ring, pairs}
use Rattle.mlu_point.proofs.eq_batch.fours.sum_of_fours.Given as goal

abbrev pub invariant-loop-i : goal.invariant-loop-i
invariant-loop-i g l =
    let ring = pair_ring (pair_ring g.S.Additive.ring) in
    ring.sum ((l.sums.0, l.sums.1), (l.sums.2, l.sums.3)) (sum_of ring (drop l.i (pairs (pairs l.shares)))) ≡ sum_of ring (pairs (pairs l.shares))
