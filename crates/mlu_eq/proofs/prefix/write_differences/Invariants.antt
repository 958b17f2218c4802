use Rattle.std.proofs.Common.{◌≡◌, length}
use Rattle.std.specs.Simd.Lanes.{zip2}
use Rattle.mlu_ring.proofs.Filled.{IsFilled}
use Rattle.mlu_eq.proofs.prefix.write_differences.Given as goal

abbrev pub invariant-loop-i : goal.invariant-loop-i
invariant-loop-i g l =
    let ring = g.F.Additive.ring in
    record {
      long : length l.out ≡ length l.fn.out;
      done : IsFilled ring.zero l.out (zip2 ring.minus l.high l.low) l.i;
    }
