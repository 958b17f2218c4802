use Rattle.std.proofs.Common.{◌≡◌, map, take}
use Rattle.mlu_ring.specs.Lanes.{logical}
use Rattle.mlu_kernel.specs.Kernels.{plus_rows}
use Rattle.mlu_kernel.proofs.prefix.add_rows_by_lane.Given as goal

abbrev pub invariant-loop-k : goal.invariant-loop-k
invariant-loop-k g l =
    let lanes = g.EF.ExtensionPacking.PackedFieldExtension.ext_lanes in
    logical lanes l.out ≡ plus_rows g.EF.Additive.ring (logical lanes l.initial.out) (take l.k (lanes l.weights)) (map g.EF.Algebra.embed l.rows)
