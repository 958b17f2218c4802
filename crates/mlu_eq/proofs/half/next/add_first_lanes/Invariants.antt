use Rattle.std.proofs.Common.{◌≡◌, ◌++◌, map, length, take, drop}
use Rattle.std.specs.Simd.Lanes.{zip2}
use Rattle.mlu_eq.proofs.half.next.add_first_lanes.Given as goal

abbrev pub invariant-loop-k : goal.invariant-loop-k
invariant-loop-k g l =
    let ring = g.EF.Additive.ring in
    l.row ≡ zip2 ring.sum (take l.k l.initial.row) (take l.k (map (ring.product l.factor) (take (length l.initial.row) (g.EF.ExtensionPacking.PackedFieldExtension.ext_lanes l.weights)))) ++ drop l.k l.initial.row
