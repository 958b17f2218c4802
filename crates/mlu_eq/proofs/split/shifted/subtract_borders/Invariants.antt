use Rattle.std.proofs.Common.{◌≡◌, ℕ, ◌<◌, ◌≤◌, ◌+◌, ◌*◌, map, get_or}
use Rattle.mlu_eq.proofs.split.shifted.subtract_borders.Given as goal

abbrev pub invariant-loop-y : goal.invariant-loop-y
invariant-loop-y g l =
    let ring = g.EF.Additive.ring in
    let old = l.initial.out in
    let border = λ (k : ℕ). ring.product l.weight (get_or (map g.EF.Algebra.embed l.entries) ((k + 1) * l.width) ring.zero) in
    record {
      done : (k : ℕ) → k < l.y → get_or l.out k ring.zero ≡ ring.minus (get_or old k ring.zero) (border k);
      rest : (k : ℕ) (d : g.row.EF.Denot) → l.y ≤ k → get_or l.out k d ≡ get_or old k d;
    }
