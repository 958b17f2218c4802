use Rattle.std.proofs.Common.{◌≡◌, drop}
use Rattle.mlu_ring.specs.Sums.{sum_of}
use Rattle.mlu_point.proofs.eq_batch.shares.sum.Given as goal

abbrev pub invariant-loop-x : goal.invariant-loop-x
invariant-loop-x g l = g.S.Additive.ring.sum l.sum (sum_of g.S.Additive.ring (drop l.x-index l.xs)) ≡ sum_of g.S.Additive.ring l.xs
