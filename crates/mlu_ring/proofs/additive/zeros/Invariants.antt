use Rattle.std.proofs.Common.{◌≡◌, replicate}
use Rattle.std.specs.Vec.{vec_capacity, vec_len}
use Rattle.mlu_ring.proofs.additive.zeros.Given as goal

abbrev pub invariant-loop : goal.invariant-loop
invariant-loop g l = record {
  items : l.zeros.items ≡ replicate l.counter g.R.Additive.ring.zero;
  len : vec_len l.zeros ≡ l.counter;
  capacity : vec_capacity l.zeros ≡ l.len;
}
