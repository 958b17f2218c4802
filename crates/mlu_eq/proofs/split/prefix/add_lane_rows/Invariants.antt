use Rattle.std.proofs.Common.{◌≡◌, map, take}
use Rattle.mlu_ring.specs.Lanes.{logical}
use Rattle.mlu_kernel.specs.Kernels.{plus_rows}
use Rattle.mlu_eq.proofs.split.prefix.add_lane_rows.Given as goal

abbrev pub invariant-loop-i : goal.invariant-loop-i
invariant-loop-i g l =
    let ring = g.EF.Additive.ring in
    l.out ≡ plus_rows ring l.initial.out (map (ring.product l.factor) (logical g.EF.ExtensionPacking.PackedFieldExtension.ext_lanes (take l.i l.weights))) (map g.EF.Algebra.embed l.rows)
