use Rattle.std.proofs.Common.{◌≡◌, length, map, take}
use Rattle.mlu_ring.specs.Lanes.{logical}
use Rattle.mlu_kernel.specs.Kernels.{dots_of_rows}
use Rattle.mlu_kernel.proofs.rows.row_dots_eager.Given as goal

abbrev pub invariant-loop-y : goal.invariant-loop-y
invariant-loop-y g l =
    let lanes = g.EF.ExtensionPacking.PackedFieldExtension.ext_lanes in
    record {
      size : length l.out ≡ length l.initial.out;
      done : take l.y l.out ≡ dots_of_rows g.EF.Additive.ring (logical lanes l.weights) (map g.EF.Algebra.embed l.rows) l.y;
    }
