use Rattle.std.proofs.Common.{◌≡◌, ◌++◌, length, take, drop}
use Rattle.std.specs.Simd.Lanes.{zip2}
use Rattle.mlu_eq.specs.Combine.{combined}
use Rattle.mlu_eq.proofs.prefix.+interpolate_by_differences.Given as goal

abbrev pub decreases-interpolate_by_differences : goal.decreases-interpolate_by_differences
decreases-interpolate_by_differences g l = length l.low.now

abbrev pub invariant-loop-i : goal.invariant-loop-i
invariant-loop-i g l =
    let ring = g.F.Additive.ring in
    l.low ≡ zip2 (combined ring ring.one (g.F.Algebra.embed l.r)) (take l.i l.initial.low) (take l.i l.differences) ++ drop l.i l.initial.low
