use Rattle.std.proofs.Common.{◌∙◌}
use Rattle.mlu_point.proofs.Equality.{eq-start, eq-step, eq-end}
use Rattle.mlu_point.proofs.point.owned.Point.eval_eq.Goals as goal

pub loop-i-init : goal.loop-i-init
loop-i-init g c = eq-start g.F.Additive.ring g.met.F.Additive.laws g.EF.Additive.ring g.met.EF.Additive.laws g.EF.Algebra.embed g.met.EF.Algebra.keeps c.args.p.now c.args.q.now c.ONE-product.result (c.ONE-product.ensures ∙ g.met.EF.Additive.one_is)

pub loop-i-preserved : goal.loop-i-preserved
loop-i-preserved g c =
    eq-step g.F.Additive.ring g.met.F.Additive.laws g.EF.Additive.ring g.met.EF.Additive.laws g.EF.Algebra.embed g.met.EF.Algebra.keeps
    c.args.p.now c.args.q.now c.loop-i.i c.index-p-i.result c.index-q-i.result c.equality_factor.result c.loop-i.product c.mul-product.result
    c.loop-i-test.true c.requires c.index-p-i.is c.index-q-i.is c.equality_factor.ensures
    (g.met.EF.PrimeCharacteristicRing.multiplies c.loop-i.product c.equality_factor.result c.mul-product.result c.mul-product.ensures)
    ∙ c.loop-i.invariant

pub returns : goal.returns
returns g c = eq-end g.F.Additive.ring g.met.F.Additive.laws g.EF.Additive.ring g.met.EF.Additive.laws g.EF.Algebra.embed g.met.EF.Algebra.keeps c.args.p.now c.args.q.now c.loop-i.i c.loop-i.product c.loop-i-test.false c.requires c.loop-i.invariant
