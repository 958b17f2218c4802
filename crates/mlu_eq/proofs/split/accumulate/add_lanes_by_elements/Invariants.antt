use Rattle.std.proofs.Common.{◌≡◌, ◌*◌, ◌++◌, map, take, drop}
use Rattle.std.specs.Simd.Lanes.{zip2}
use Rattle.mlu_ring.specs.Lanes.{logical}
use Rattle.mlu_eq.proofs.split.accumulate.add_lanes_by_elements.Given as goal

abbrev pub invariant-loop-i : goal.invariant-loop-i
invariant-loop-i g l =
    let ring = g.EF.Additive.ring in
    let done = l.i * g.F.Packing.PackedValue.WIDTH in
    l.out ≡ zip2 ring.sum (take done l.initial.out) (take done (map (ring.product l.fn.factor) (logical g.EF.ExtensionPacking.PackedFieldExtension.ext_lanes l.weights))) ++ drop done l.initial.out
