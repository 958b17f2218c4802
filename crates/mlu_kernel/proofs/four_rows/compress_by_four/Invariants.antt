use Rattle.std.proofs.Common.{◌≡◌, map, take}
use Rattle.mlu_ring.specs.Lanes.{logical}
use Rattle.mlu_kernel.specs.Kernels.{plus_rows}
use Rattle.mlu_kernel.proofs.four_rows.compress_by_four.Given as goal

abbrev pub invariant-loop-i : goal.invariant-loop-i
invariant-loop-i g l =
    let ring = g.EF.Additive.ring in
    let lanes = g.EF.ExtensionPacking.PackedFieldExtension.ext_lanes in
    logical lanes l.out ≡ plus_rows ring (logical lanes l.initial.out) (map (ring.product l.w0) (logical lanes (take l.i l.eq1))) (map g.EF.Algebra.embed l.chunk)
