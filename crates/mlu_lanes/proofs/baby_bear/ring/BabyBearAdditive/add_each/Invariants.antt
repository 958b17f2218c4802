-- Below the place that is next the sums are written, and the others are as before.
use Rattle.std.proofs.Common.{◌≡◌, ◌*◌, ◌≤◌, ℕ, length, get_or}
use Rattle.mlu_ring.proofs.Filled.{IsFilledBy}
use Rattle.mlu_lanes.specs.BabyBear.{reduced}
use Rattle.mlu_lanes.proofs.PlaceSums.{both_at}
use Rattle.mlu_lanes.proofs.baby_bear.ring.BabyBearAdditive.add_each.Given as goal

abbrev pub invariant-loop-g : goal.invariant-loop-g
invariant-loop-g g l = record {
  long : length l.out ≡ length l.fn.out;
  filled : IsFilledBy (reduced 0) l.out (both_at l.fn.out l.b) (4 * l.g);
  rest : (i : ℕ) → 4 * l.g ≤ i → get_or l.out i (reduced 0) ≡ get_or l.fn.out i (reduced 0);
}

abbrev pub invariant-loop-k : goal.invariant-loop-k
invariant-loop-k g l = record {
  long : length l.out ≡ length l.fn.out;
  filled : IsFilledBy (reduced 0) l.out (both_at l.fn.out l.b) l.k;
  rest : (i : ℕ) → l.k ≤ i → get_or l.out i (reduced 0) ≡ get_or l.fn.out i (reduced 0);
}
