-- Below k the relation of the operator is written.
use Rattle.std.proofs.Common.{◌≡◌, length}
use Rattle.mlu_lanes.specs.LaneRing.{values_of}
use Rattle.mlu_lanes.specs.Entrywise.{EntrywiseTriple}
use Rattle.mlu_lanes.proofs.lanes.ring.LanesAdd.add.Given as goal

abbrev pub invariant-loop-k : goal.invariant-loop-k
invariant-loop-k g l = record {
  long : length l.values ≡ g.row.W;
  written : EntrywiseTriple l.k g.F.Add.add_gives (values_of l.self) (values_of l.other) l.values;
}
