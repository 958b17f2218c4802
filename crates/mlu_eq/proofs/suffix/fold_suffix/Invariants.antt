use Rattle.std.proofs.Common.{◌≡◌, ◌+◌, ◌*◌, length, get_or}
use Rattle.std.specs.Vec.{vec_capacity, vec_len}
use Rattle.mlu_ring.proofs.Filled.{IsFilledBy}
use Rattle.mlu_eq.specs.Combine.{interpolated}
use Rattle.mlu_eq.proofs.suffix.fold_suffix.Given as goal

abbrev pub invariant-loop-i : goal.invariant-loop-i
invariant-loop-i g l =
    let ring = g.EF.Additive.ring in
    let embed = g.EF.Algebra.embed in
    let zero = g.F.Additive.ring.zero in
    record {
      size : length l.folded.items ≡ l.i;
      len : vec_len l.folded ≡ l.i;
      capacity : vec_capacity l.folded ≡ l.half;
      done : IsFilledBy ring.zero l.folded.items (λ k. interpolated ring l.r (embed (get_or l.entries (2 * k) zero)) (embed (get_or l.entries (2 * k + 1) zero))) l.i;
    }
