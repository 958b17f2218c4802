use Rattle.std.proofs.Common.{◌≡◌, ℕ, ◌+◌, ◌*◌, ◌<◌, ◌≤◌, length, get_or}
use Rattle.mlu_point.specs.Batches.{upper_share, lower_share}
use Rattle.mlu_point.proofs.eq_batch.fours.split_fours.Given as goal

abbrev pub invariant-loop-i : goal.invariant-loop-i
invariant-loop-i g l =
    let ring = g.S.Additive.ring in
    let image = g.E.EqualityEvaluator.image in
    record {
      long_low : length l.low ≡ length l.fn.low;
      long_high : length l.high ≡ length l.fn.high;
      upper : (k i : ℕ) (d : g.row.S.Denot) (c : g.row.C.Denot) → i < l.i → 4 * i ≤ k → k < 4 * i + 4 → get_or l.high k d ≡ upper_share ring image (get_or l.fn.low k d) (get_or l.coordinates i c);
      lower : (k i : ℕ) (d : g.row.S.Denot) (c : g.row.C.Denot) → i < l.i → 4 * i ≤ k → k < 4 * i + 4 → get_or l.low k d ≡ lower_share ring image (get_or l.fn.low k d) (get_or l.coordinates i c);
      rest : (k : ℕ) (d : g.row.S.Denot) → 4 * l.i ≤ k → get_or l.low k d ≡ get_or l.fn.low k d;
    }
