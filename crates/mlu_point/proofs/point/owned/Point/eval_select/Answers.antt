use Rattle.std.proofs.Common.{◌≡◌, length, refl, ap, ◌∙◌, arith}
use Rattle.mlu_point.proofs.PowerTables.{power-first, power-doubled}
use Rattle.mlu_point.proofs.Selection.{select-start, select-step, select-end}
use Rattle.mlu_point.proofs.point.owned.Point.eval_select.Goals as goal

pub loop-k-init : goal.loop-k-init
loop-k-init g c = record {
  next = power-first g.F.Additive.ring g.met.F.Additive.laws c.args.var c.args.var refl;
  value = select-start g.F.Additive.ring g.met.F.Additive.laws g.EF.Additive.ring g.met.EF.Additive.laws g.EF.Algebra.embed g.met.EF.Algebra.keeps c.args.var c.args.point.now c.ONE-product.result (c.ONE-product.ensures ∙ g.met.EF.Additive.one_is);
}

pub loop-k-preserved : goal.loop-k-preserved
loop-k-preserved g c = record {
  next = power-doubled g.F.Additive.ring g.met.F.Additive.laws c.args.var c.loop-k.power c.square-power.result c.loop-k.k c.loop-k.invariant.next c.square-power.ensures;
  value =
      select-step g.F.Additive.ring g.met.F.Additive.laws g.EF.Additive.ring g.met.EF.Additive.laws g.EF.Algebra.embed g.met.EF.Algebra.keeps
      c.args.var c.args.point.now c.loop-k.k c.index-point-place.result c.loop-k.power c.loop-k.product c.mul-product.result
      c.loop-k-test.true c.index-point-place.is c.loop-k.invariant.next c.loop-k.invariant.value
      (g.met.EF.PrimeCharacteristicRing.multiplies c.select_factor.result c.loop-k.product c.mul-product.result c.mul-product.ensures ∙ ap (λ t. g.EF.Additive.ring.product t c.loop-k.product) c.select_factor.ensures);
}

pub returns : goal.returns
returns g c =
    let all : c.loop-k.k ≡ length c.args.point.now = omega (arith, c.loop-k-test.false, c.loop-k.auto.k-end) in
    select-end g.F.Additive.ring g.met.F.Additive.laws g.EF.Additive.ring g.met.EF.Additive.laws g.EF.Algebra.embed g.met.EF.Algebra.keeps c.args.var c.args.point.now c.loop-k.k c.loop-k.product all c.loop-k.invariant.value
