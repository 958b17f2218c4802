use Rattle.std.proofs.Common.{◌≡◌}
use Rattle.std.specs.Vec.{vec_capacity, vec_len}
use Rattle.multilinear_util.proofs.poly.Poly.rand.Given as goal

abbrev pub invariant-loop : goal.invariant-loop
invariant-loop g l = record {
  len : vec_len l.evals ≡ l.counter;
  capacity : vec_capacity l.evals ≡ l.num_evals;
}
