use Rattle.std.proofs.Common.{◌≡◌, take}
use Rattle.mlu_ring.specs.Lanes.{logical}
use Rattle.mlu_kernel.specs.Kernels.{double_sum}
use Rattle.mlu_eq.proofs.split.dot.dot_of_rows_by_lanes.Given as goal

abbrev pub invariant-loop-j : goal.invariant-loop-j
invariant-loop-j g l =
    let lanes = g.EF.ExtensionPacking.PackedFieldExtension.ext_lanes in
    l.sum ≡ double_sum g.EF.Additive.ring (take l.j l.eq0) (logical lanes l.weights) (logical lanes l.entries)
