use Rattle.std.proofs.Common.{◌≡◌, ◌++◌, map, take, drop}
use Rattle.std.specs.Simd.Lanes.{zip2}
use Rattle.mlu_eq.proofs.split.prefix.add_scalar_row.Given as goal

abbrev pub invariant-loop-z : goal.invariant-loop-z
invariant-loop-z g l =
    let ring = g.EF.Additive.ring in
    l.out ≡ zip2 ring.sum (take l.z l.initial.out) (take l.z (map (ring.product l.weight) (map g.EF.Algebra.embed l.row))) ++ drop l.z l.initial.out
