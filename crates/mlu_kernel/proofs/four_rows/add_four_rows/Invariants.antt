use Rattle.std.proofs.Common.{◌≡◌, ◌*◌, ◌++◌, map, take, drop}
use Rattle.std.specs.Simd.Lanes.{zip2}
use Rattle.mlu_ring.specs.Lanes.{logical}
use Rattle.mlu_ring.specs.Tables.{front}
use Rattle.mlu_kernel.proofs.four_rows.add_four_rows.Given as goal

abbrev pub invariant-loop-z : goal.invariant-loop-z
invariant-loop-z g l =
    let ring = g.EF.Additive.ring in
    let lanes = g.EF.ExtensionPacking.PackedFieldExtension.ext_lanes in
    let written = l.z * g.F.Packing.PackedValue.WIDTH in
    let old = logical lanes l.initial.out in
    logical lanes l.out ≡ zip2 ring.sum (take written old) (take written (front ring l.weights (map g.EF.Algebra.embed l.rows))) ++ drop written old
