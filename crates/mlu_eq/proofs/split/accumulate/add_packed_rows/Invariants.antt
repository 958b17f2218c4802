use Rattle.std.proofs.Common.{◌≡◌}
use Rattle.mlu_ring.specs.Lanes.{logical}
use Rattle.mlu_eq.proofs.Accumulations.{rows_added}
use Rattle.mlu_eq.proofs.split.accumulate.add_packed_rows.Given as goal

abbrev pub invariant-loop-j : goal.invariant-loop-j
invariant-loop-j g l =
    let lanes = g.EF.ExtensionPacking.PackedFieldExtension.ext_lanes in
    logical lanes l.out ≡ rows_added g.EF.Additive.ring l.eq0 (logical lanes l.weights) (logical lanes l.initial.out) l.scale l.j
