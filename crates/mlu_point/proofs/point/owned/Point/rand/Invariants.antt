use Rattle.std.proofs.Common.{◌≡◌}
use Rattle.std.specs.Vec.{vec_capacity, vec_len}
use Rattle.mlu_point.proofs.point.owned.Point.rand.Given as goal

abbrev pub invariant-loop : goal.invariant-loop
invariant-loop g l = record {
  len : vec_len l.coords ≡ l.counter;
  capacity : vec_capacity l.coords ≡ l.n;
}
