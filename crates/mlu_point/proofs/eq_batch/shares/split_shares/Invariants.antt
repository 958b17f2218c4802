use Rattle.std.proofs.Common.{◌≡◌, ℕ, ◌<◌, ◌≤◌, get_or}
use Rattle.mlu_point.proofs.eq_batch.shares.split_shares.Given as goal

abbrev pub invariant-loop-i : goal.invariant-loop-i
invariant-loop-i g l =
    let ring = g.S.Additive.ring in
    let image = g.E.EqualityEvaluator.image in
    record {
      upper : (k : ℕ) (d : g.row.S.Denot) (c : g.row.C.Denot) → k < l.i → get_or l.high k d ≡ ring.product (get_or l.fn.low k d) (image (get_or l.coordinates k c));
      lower : (k : ℕ) (d : g.row.S.Denot) (c : g.row.C.Denot) → k < l.i → get_or l.low k d ≡ ring.minus (get_or l.fn.low k d) (ring.product (get_or l.fn.low k d) (image (get_or l.coordinates k c)));
      rest : (k : ℕ) (d : g.row.S.Denot) → l.i ≤ k → get_or l.low k d ≡ get_or l.fn.low k d;
    }
