use Rattle.std.proofs.Common.{◌≡◌, ℕ, ◌*◌, ◌<◌, map, length, get_or, take, drop}
use Rattle.mlu_ring.specs.Tables.{pair}
use Rattle.mlu_eq.specs.Split.{contents}
use Rattle.mlu_eq.proofs.split.suffix.compress_rows.Given as goal

abbrev pub invariant-loop-y : goal.invariant-loop-y
invariant-loop-y g l =
    let ring = g.EF.Additive.ring in
    let table = g.S.SuffixCompression.moved (contents ring l.eq0 (l.eq1.weights)) in
    let e = map g.EF.Algebra.embed l.entries in
    record {
      size : length l.out ≡ length l.initial.out;
      done : (k : ℕ) (d : g.row.EF.Denot) → k < l.y → get_or l.out k d ≡ pair ring table (take (length table) (drop (k * length table) e));
    }
