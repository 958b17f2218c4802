use Rattle.std.proofs.Common.{◌≡◌, ◌*◌, take}
use Rattle.std.specs.Vec.{vec_capacity, vec_len}
use Rattle.mlu_ring.specs.Lanes.{logical}
use Rattle.multilinear_util.proofs.packing.packed.Given as goal

abbrev pub invariant-loop-i : goal.invariant-loop-i
invariant-loop-i g l = record {
  lanes : logical g.EF.ExtensionPacking.PackedFieldExtension.ext_lanes l.elements.items ≡ take (l.i * g.F.Packing.PackedValue.WIDTH) l.evals;
  len : vec_len l.elements ≡ l.i;
  capacity : vec_capacity l.elements ≡ l.groups;
}
