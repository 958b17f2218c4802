use Rattle.std.proofs.Common.{◌∙◌}
use Rattle.mlu_point.proofs.Equality.{factor-steps}
use Rattle.mlu_point.proofs.point.evaluation.equality_factor.Goals as goal

pub returns : goal.returns
returns g c =
    factor-steps g.F.Additive.ring g.met.F.Additive.laws g.EF.Additive.ring g.met.EF.Additive.laws g.EF.Algebra.embed g.met.EF.Algebra.keeps
    c.args.p c.ONE.result c.sub.result c.args.q c.double.result c.scale.result c.plus.result c.sub-2.result
    c.double.ensures c.scale.ensures (c.ONE.ensures ∙ g.met.F.Additive.one_is) (g.met.F.Additive.subtracts c.ONE.result c.args.p c.sub.result c.sub.ensures)
    c.plus.ensures (g.met.EF.Additive.subtracts c.plus.result c.args.q c.sub-2.result c.sub-2.ensures)
