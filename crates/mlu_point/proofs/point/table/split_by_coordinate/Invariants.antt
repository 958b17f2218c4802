use Rattle.std.proofs.Common.{◌≡◌, ℕ, ◌<◌, ◌≤◌, get_or}
use Rattle.mlu_point.proofs.point.table.split_by_coordinate.Given as goal

abbrev pub invariant-loop-i : goal.invariant-loop-i
invariant-loop-i g l =
    let ring = g.R.Additive.ring in
    record {
      upper : (k : ℕ) (d : g.row.R.Denot) → k < l.i → get_or l.high k d ≡ ring.product (get_or l.fn.low k d) l.coordinate;
      lower : (k : ℕ) (d : g.row.R.Denot) → k < l.i → get_or l.low k d ≡ ring.minus (get_or l.fn.low k d) (ring.product (get_or l.fn.low k d) l.coordinate);
      rest : (k : ℕ) (d : g.row.R.Denot) → l.i ≤ k → get_or l.low k d ≡ get_or l.fn.low k d;
    }
