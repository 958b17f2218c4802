-- Below k the lanes are written.
use Rattle.mlu_lanes.specs.LaneRing.{values_of}
use Rattle.mlu_ring.proofs.Filled.{IsFilled}
use Rattle.mlu_lanes.proofs.lanes.packed.LanesPackedValue.store.Given as goal

abbrev pub invariant-loop-k : goal.invariant-loop-k
invariant-loop-k g l = IsFilled g.F.Additive.ZERO l.out (values_of l.self) l.k
