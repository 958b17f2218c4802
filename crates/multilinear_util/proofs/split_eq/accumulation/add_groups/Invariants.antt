use Rattle.std.proofs.Common.{◌≡◌, ◌*◌, ◌++◌, take, drop}
use Rattle.std.specs.Simd.Lanes.{zip2}
use Rattle.mlu_ring.specs.Lanes.{logical}
use Rattle.multilinear_util.proofs.split_eq.accumulation.add_groups.Given as goal

abbrev pub invariant-loop-i : goal.invariant-loop-i
invariant-loop-i g l =
    let lanes = g.EF.ExtensionPacking.PackedFieldExtension.ext_lanes in
    let done = l.i * g.F.Packing.PackedValue.WIDTH in
    let old = logical lanes l.initial.out in
    logical lanes l.out ≡ zip2 g.EF.Additive.ring.sum (take done old) (take done l.values) ++ drop done old
