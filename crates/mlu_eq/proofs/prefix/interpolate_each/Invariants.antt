use Rattle.std.proofs.Common.{◌≡◌, ◌++◌, take, drop}
use Rattle.std.specs.Simd.Lanes.{zip2}
use Rattle.mlu_eq.specs.Combine.{interpolated}
use Rattle.mlu_eq.proofs.prefix.interpolate_each.Given as goal

abbrev pub invariant-loop-i : goal.invariant-loop-i
invariant-loop-i g l =
    l.low ≡ zip2 (interpolated g.F.Additive.ring (g.F.Algebra.embed l.r)) (take l.i l.initial.low) (take l.i l.high) ++ drop l.i l.initial.low
