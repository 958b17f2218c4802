use Rattle.std.proofs.Common.{◌≡◌, take, map}
use Rattle.mlu_ring.specs.Lanes.{logical}
use Rattle.mlu_kernel.specs.Kernels.{double_sum}
use Rattle.mlu_kernel.proofs.dot.compress_hi_dot_packed_eager.Given as goal

abbrev pub invariant-loop-j : goal.invariant-loop-j
invariant-loop-j g l =
    let lanes = g.EF.ExtensionPacking.PackedFieldExtension.ext_lanes in
    l.sum ≡ double_sum g.EF.Additive.ring (take l.j l.eq0) (logical lanes l.eq1) (map g.EF.Algebra.embed l.chunk)
