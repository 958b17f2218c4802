use Rattle.std.proofs.Common.{◌≡◌, ◌*◌, ◌++◌, take, drop}
use Rattle.mlu_ring.specs.Lanes.{logical}
use Rattle.mlu_eq.proofs.unpack.unpack_into.Given as goal

abbrev pub invariant-loop-i : goal.invariant-loop-i
invariant-loop-i g l = l.out ≡ logical g.EF.ExtensionPacking.PackedFieldExtension.ext_lanes (take l.i l.elements) ++ drop (l.i * g.F.Packing.PackedValue.WIDTH) l.initial.out
