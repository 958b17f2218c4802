-- Below the place that is next the sums are written.
use Rattle.std.proofs.Common.{◌≡◌, ◌*◌, length}
use Rattle.mlu_ring.proofs.Filled.{IsFilledBy}
use Rattle.mlu_lanes.specs.BabyBear.{reduced}
use Rattle.mlu_lanes.proofs.PlaceSums.{sum_at}
use Rattle.mlu_lanes.proofs.baby_bear.ring.BabyBearPrimeCharacteristicRing.each_four_products.Given as goal

abbrev pub invariant-loop-g : goal.invariant-loop-g
invariant-loop-g g l = record {
  long : length l.out ≡ length l.fn.out;
  filled : IsFilledBy (reduced 0) l.out (sum_at l.l.0.now l.l.1.now l.l.2.now l.l.3.now l.r.0.now l.r.1.now l.r.2.now l.r.3.now) (4 * l.g);
}

abbrev pub invariant-loop-k : goal.invariant-loop-k
invariant-loop-k g l = record {
  long : length l.out ≡ length l.fn.out;
  filled : IsFilledBy (reduced 0) l.out (sum_at l.l.0.now l.l.1.now l.l.2.now l.l.3.now l.r.0.now l.r.1.now l.r.2.now l.r.3.now) l.k;
}
