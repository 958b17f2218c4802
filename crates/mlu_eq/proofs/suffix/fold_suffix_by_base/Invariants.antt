use Rattle.std.proofs.Common.{◌≡◌, ◌+◌, ◌*◌, length, get_or}
use Rattle.std.specs.Vec.{vec_capacity, vec_len}
use Rattle.mlu_ring.proofs.Filled.{IsFilledBy}
use Rattle.mlu_eq.specs.Combine.{interpolated}
use Rattle.mlu_eq.proofs.suffix.fold_suffix_by_base.Given as goal

abbrev pub invariant-loop-i : goal.invariant-loop-i
invariant-loop-i g l =
    let ring = g.F.Additive.ring in
    record {
      size : length l.folded.items ≡ l.i;
      len : vec_len l.folded ≡ l.i;
      capacity : vec_capacity l.folded ≡ l.half;
      done : IsFilledBy ring.zero l.folded.items (λ k. interpolated ring (g.F.Algebra.embed l.r) (get_or l.entries (2 * k) ring.zero) (get_or l.entries (2 * k + 1) ring.zero)) l.i;
    }
