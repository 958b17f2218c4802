use Rattle.std.proofs.Common.{◌≡◌, map, take}
use Rattle.mlu_kernel.specs.Kernels.{plus_rows}
use Rattle.mlu_eq.proofs.split.shifted.add_first_lane_rows.Given as goal

abbrev pub invariant-loop-k : goal.invariant-loop-k
invariant-loop-k g l = l.out ≡ plus_rows g.EF.Additive.ring l.initial.out (take l.k (g.EF.ExtensionPacking.PackedFieldExtension.ext_lanes l.weights)) (map g.EF.Algebra.embed l.rows)
