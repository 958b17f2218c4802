-- Below the place that is next the sums are written.
use Rattle.std.proofs.Common.{◌≡◌, ◌*◌, length}
use Rattle.mlu_ring.proofs.Filled.{IsFilledBy}
use Rattle.mlu_lanes.specs.BabyBear.{reduced}
use Rattle.mlu_lanes.proofs.PlaceSums.{row_at_times}
use Rattle.mlu_lanes.proofs.baby_bear.ring.BabyBearPrimeCharacteristicRing.rows_times_column.Given as goal

abbrev pub invariant-loop-g : goal.invariant-loop-g
invariant-loop-g g l = record {
  long : length l.out ≡ length l.fn.out;
  filled : IsFilledBy (reduced 0) l.out (row_at_times l.l.0.now l.l.1.now l.l.2.now l.l.3.now l.column.0 l.column.1 l.column.2 l.column.3) (4 * l.g);
}

abbrev pub invariant-loop-k : goal.invariant-loop-k
invariant-loop-k g l = record {
  long : length l.out ≡ length l.fn.out;
  filled : IsFilledBy (reduced 0) l.out (row_at_times l.l.0.now l.l.1.now l.l.2.now l.l.3.now l.column.0 l.column.1 l.column.2 l.column.3) l.k;
}
