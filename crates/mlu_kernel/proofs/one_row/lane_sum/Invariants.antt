use Rattle.std.proofs.Common.{◌≡◌, take}
use Rattle.mlu_ring.specs.Sums.{sum_of}
use Rattle.mlu_kernel.proofs.one_row.lane_sum.Given as goal

abbrev pub invariant-loop-k : goal.invariant-loop-k
invariant-loop-k g l = l.sum ≡ sum_of g.EF.Additive.ring (take l.k (g.EF.ExtensionPacking.PackedFieldExtension.ext_lanes l.packed))
