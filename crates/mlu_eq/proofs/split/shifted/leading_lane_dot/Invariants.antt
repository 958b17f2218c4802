use Rattle.std.proofs.Common.{◌≡◌, map, take}
use Rattle.mlu_ring.specs.Tables.{pair}
use Rattle.mlu_eq.proofs.split.shifted.leading_lane_dot.Given as goal

abbrev pub invariant-loop-k : goal.invariant-loop-k
invariant-loop-k g l = l.sum ≡ pair g.EF.Additive.ring (take l.k (g.EF.ExtensionPacking.PackedFieldExtension.ext_lanes l.weights)) (map g.EF.Algebra.embed l.row)
