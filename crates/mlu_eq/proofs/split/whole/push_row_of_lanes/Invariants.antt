use Rattle.std.proofs.Common.{◌*◌, take}
use Rattle.mlu_eq.specs.Split.{scaled_lanes}
use Rattle.mlu_eq.proofs.Appended.{Appended}
use Rattle.mlu_eq.proofs.split.whole.push_row_of_lanes.Given as goal

abbrev pub invariant-loop-weight : goal.invariant-loop-weight
invariant-loop-weight g l =
    Appended l.initial.table l.table (scaled_lanes g.EF.Additive.ring g.EF.ExtensionPacking.PackedFieldExtension.ext_lanes l.factor (take l.weight-index l.weights))
    (l.weight-index * g.F.Packing.PackedValue.WIDTH)
