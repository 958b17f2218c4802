-- Below k the relation of the operator is written.
use Rattle.std.proofs.Common.{◌≡◌, length}
use Rattle.mlu_lanes.specs.LaneRing.{values_of}
use Rattle.mlu_lanes.specs.Entrywise.{EntrywisePair}
use Rattle.mlu_lanes.proofs.lanes.ring.LanesNeg.neg.Given as goal

abbrev pub invariant-loop-k : goal.invariant-loop-k
invariant-loop-k g l = record {
  long : length l.values ≡ g.row.W;
  written : EntrywisePair l.k g.F.Neg.neg_gives (values_of l.self) l.values;
}
