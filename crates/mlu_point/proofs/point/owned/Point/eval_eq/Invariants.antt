use Rattle.std.proofs.Common.{◌≡◌, drop}
use Rattle.mlu_point.proofs.Equality.{eq_value}
use Rattle.mlu_point.proofs.point.owned.Point.eval_eq.Given as goal

abbrev pub invariant-loop-i : goal.invariant-loop-i
invariant-loop-i g l =
    let value = eq_value g.F.Additive.ring g.met.F.Additive.laws g.EF.Additive.ring g.met.EF.Additive.laws g.EF.Algebra.embed g.met.EF.Algebra.keeps in
    g.EF.Additive.ring.product l.product (value (drop l.i l.p) (drop l.i l.q)) ≡ value l.p l.q
