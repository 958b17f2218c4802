use Rattle.std.proofs.Common.{◌*◌, length, take}
use Rattle.mlu_eq.specs.Split.{packed_contents}
use Rattle.mlu_eq.proofs.Appended.{Appended}
use Rattle.mlu_eq.proofs.split.whole.push_rows_of_lanes.Given as goal

abbrev pub invariant-loop-factor : goal.invariant-loop-factor
invariant-loop-factor g l =
    Appended l.initial.table l.table (packed_contents g.EF.Additive.ring g.EF.ExtensionPacking.PackedFieldExtension.ext_lanes (take l.factor-index l.eq0) l.weights)
    (l.factor-index * (length l.weights * g.F.Packing.PackedValue.WIDTH))
