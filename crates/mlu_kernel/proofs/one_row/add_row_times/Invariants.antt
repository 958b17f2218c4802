use Rattle.std.proofs.Common.{◌≡◌, ◌*◌, ◌++◌, map, take, drop}
use Rattle.std.specs.Simd.Lanes.{zip2}
use Rattle.mlu_ring.specs.Lanes.{logical}
use Rattle.mlu_kernel.proofs.one_row.add_row_times.Given as goal

abbrev pub invariant-loop-z : goal.invariant-loop-z
invariant-loop-z g l =
    let ring = g.EF.Additive.ring in
    let lanes = g.EF.ExtensionPacking.PackedFieldExtension.ext_lanes in
    let written = l.z * g.F.Packing.PackedValue.WIDTH in
    let old = logical lanes l.initial.out in
    logical lanes l.out ≡ zip2 ring.sum (take written old) (take written (map (ring.product l.fn.weight) (map g.EF.Algebra.embed l.row))) ++ drop written old
