use Rattle.std.proofs.Common.{◌≡◌, ◌++◌, map, take, drop}
use Rattle.std.specs.Simd.Lanes.{zip2}
use Rattle.mlu_eq.proofs.split.accumulate.add_scaled_each.Given as goal

abbrev pub invariant-loop-i : goal.invariant-loop-i
invariant-loop-i g l =
    let ring = g.R.Additive.ring in
    l.out ≡ zip2 ring.sum (take l.i l.initial.out) (take l.i (map (ring.product (g.R.Algebra.embed l.factor)) l.weights)) ++ drop l.i l.initial.out
