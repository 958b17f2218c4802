use Rattle.std.proofs.Common.{◌≡◌, ◌*◌, map, take}
use Rattle.mlu_ring.specs.Lanes.{logical}
use Rattle.mlu_kernel.specs.Kernels.{plus_rows}
use Rattle.mlu_kernel.proofs.four_rows.add_rows_by_four.Given as goal

abbrev pub invariant-loop-i : goal.invariant-loop-i
invariant-loop-i g l =
    let lanes = g.EF.ExtensionPacking.PackedFieldExtension.ext_lanes in
    logical lanes l.out ≡ plus_rows g.EF.Additive.ring (logical lanes l.initial.out) (take (4 * l.i) (lanes l.weights)) (map g.EF.Algebra.embed l.rows)
