use Rattle.std.proofs.Common.{◌≡◌, ◌-◌, ◌^◌, length, drop}
use Rattle.mlu_ring.specs.Tables.{power}
use Rattle.mlu_point.proofs.Selection.{select_value}
use Rattle.mlu_point.proofs.point.owned.Point.eval_select.Given as goal

abbrev pub invariant-loop-k : goal.invariant-loop-k
invariant-loop-k g l =
    record {
      next : l.power ≡ power g.F.Additive.ring l.fn.var (2 ^ l.k);
      value : l.product ≡ select_value g.F.Additive.ring g.met.F.Additive.laws g.EF.Additive.ring g.met.EF.Additive.laws g.EF.Algebra.embed g.met.EF.Algebra.keeps l.fn.var l.k (drop (length l.point - l.k) l.point);
    }
