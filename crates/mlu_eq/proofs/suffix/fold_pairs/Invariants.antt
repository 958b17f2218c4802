use Rattle.std.proofs.Common.{◌≡◌, ◌+◌, ◌*◌, length, get_or}
use Rattle.mlu_ring.proofs.Filled.{IsFilledBy}
use Rattle.mlu_eq.specs.Combine.{interpolated}
use Rattle.mlu_eq.proofs.suffix.fold_pairs.Given as goal

abbrev pub invariant-loop-i : goal.invariant-loop-i
invariant-loop-i g l =
    let ring = g.F.Additive.ring in
    record {
      long : length l.out ≡ length l.fn.out;
      done : IsFilledBy ring.zero l.out (λ k. interpolated ring (g.F.Algebra.embed l.r) (get_or l.pairs (2 * k) ring.zero) (get_or l.pairs (2 * k + 1) ring.zero)) l.i;
    }
