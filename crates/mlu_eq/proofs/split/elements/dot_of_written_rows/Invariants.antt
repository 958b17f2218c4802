use Rattle.std.proofs.Common.{◌≡◌, length, take}
use Rattle.mlu_ring.specs.Lanes.{logical}
use Rattle.mlu_kernel.specs.Kernels.{double_sum}
use Rattle.mlu_eq.proofs.split.elements.dot_of_written_rows.Given as goal

abbrev pub invariant-loop-j : goal.invariant-loop-j
invariant-loop-j g l = record {
  long : length l.row ≡ length l.weights;
  dot : l.sum ≡ double_sum g.EF.Additive.ring (take l.j l.eq0) l.weights (logical g.EF.ExtensionPacking.PackedFieldExtension.ext_lanes l.entries);
}
