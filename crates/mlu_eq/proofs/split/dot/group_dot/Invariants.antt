use Rattle.std.proofs.Common.{◌≡◌, take}
use Rattle.mlu_ring.specs.Lanes.{logical}
use Rattle.mlu_ring.specs.Sums.{sum_of}
use Rattle.mlu_ring.specs.Tables.{pair}
use Rattle.mlu_eq.proofs.split.dot.group_dot.Given as goal

abbrev pub invariant-loop-i : goal.invariant-loop-i
invariant-loop-i g l =
    let lanes = g.EF.ExtensionPacking.PackedFieldExtension.ext_lanes in
    sum_of g.EF.Additive.ring (lanes l.sum) ≡ pair g.EF.Additive.ring (logical lanes (take l.i l.weights)) l.entries
