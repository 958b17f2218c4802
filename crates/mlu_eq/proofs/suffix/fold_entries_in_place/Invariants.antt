use Rattle.std.proofs.Common.{◌≡◌, ℕ, ◌+◌, ◌*◌, ◌<◌, ◌≤◌, length, get_or}
use Rattle.mlu_eq.specs.Combine.{interpolated}
use Rattle.mlu_eq.proofs.suffix.fold_entries_in_place.Given as goal

abbrev pub invariant-loop-i : goal.invariant-loop-i
invariant-loop-i g l =
    record {
      size : length l.entries ≡ length l.fn.entries;
      done : (k : ℕ) (d : g.row.F.Denot) → k < l.i → get_or l.entries k d ≡ interpolated g.F.Additive.ring (g.F.Algebra.embed l.r) (get_or l.fn.entries (2 * k) d) (get_or l.fn.entries (2 * k + 1) d);
      rest : (k : ℕ) (d : g.row.F.Denot) → l.i ≤ k → get_or l.entries k d ≡ get_or l.fn.entries k d;
    }
