use Rattle.std.proofs.Common.{◌≡◌, ℕ, ◌<◌, ◌≤◌, length, get_or}
use Rattle.mlu_point.specs.Batches.{upper_share, lower_share}
use Rattle.mlu_point.proofs.eq_batch.fours.split_four.Given as goal

abbrev pub invariant-loop-k : goal.invariant-loop-k
invariant-loop-k g l =
    let ring = g.S.Additive.ring in
    let image = g.E.EqualityEvaluator.image in
    record {
      long_low : length l.low ≡ length l.fn.low;
      long_high : length l.high ≡ length l.fn.high;
      upper : (k : ℕ) (d : g.row.S.Denot) → l.start ≤ k → k < l.k → get_or l.high k d ≡ upper_share ring image (get_or l.fn.low k d) l.coordinate;
      lower : (k : ℕ) (d : g.row.S.Denot) → l.start ≤ k → k < l.k → get_or l.low k d ≡ lower_share ring image (get_or l.fn.low k d) l.coordinate;
      before_high : (k : ℕ) (d : g.row.S.Denot) → k < l.start → get_or l.high k d ≡ get_or l.fn.high k d;
      before_low : (k : ℕ) (d : g.row.S.Denot) → k < l.start → get_or l.low k d ≡ get_or l.fn.low k d;
      rest : (k : ℕ) (d : g.row.S.Denot) → l.k ≤ k → get_or l.low k d ≡ get_or l.fn.low k d;
    }
