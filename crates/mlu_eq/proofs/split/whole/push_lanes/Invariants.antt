use Rattle.std.proofs.Common.{take}
use Rattle.mlu_eq.proofs.Appended.{Appended}
use Rattle.mlu_eq.proofs.split.whole.push_lanes.Given as goal

abbrev pub invariant-loop-k : goal.invariant-loop-k
invariant-loop-k g l = Appended l.initial.table l.table (take l.k (g.EF.ExtensionPacking.PackedFieldExtension.ext_lanes l.fn.lanes)) l.k
