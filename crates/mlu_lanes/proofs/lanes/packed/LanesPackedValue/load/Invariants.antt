-- Below k the values are read.
use Rattle.std.proofs.Common.{◌≡◌, length}
use Rattle.mlu_ring.proofs.Filled.{IsFilled}
use Rattle.mlu_lanes.proofs.lanes.packed.LanesPackedValue.load.Given as goal

abbrev pub invariant-loop-k : goal.invariant-loop-k
invariant-loop-k g l = record {
  long : length l.lanes ≡ g.row.W;
  read : IsFilled g.F.Additive.ZERO l.lanes l.values l.k;
}
