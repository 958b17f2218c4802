use Rattle.std.proofs.Common.{◌≡◌, ◌*◌, length, take, drop}
use Rattle.mlu_ring.specs.Lanes.{logical}
use Rattle.mlu_point.proofs.eq_batch.lanes.pack_four.Given as goal

abbrev pub invariant-loop-b : goal.invariant-loop-b
invariant-loop-b g l = record {
  long : length l.shares ≡ length l.fn.shares;
  before : take l.start l.shares ≡ take l.start l.fn.shares;
  packed : logical g.EF.ExtensionPacking.PackedFieldExtension.ext_lanes (take l.b (drop l.start l.shares)) ≡ take (l.b * g.F.Packing.PackedValue.WIDTH) l.lanes;
}
