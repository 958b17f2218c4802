use Rattle.std.proofs.Common.{◌∙◌, ap, sym}
use Rattle.std.proofs.lemmas.List.{take_all}
use Rattle.mlu_ring.specs.Tables.{pair}
use Rattle.mlu_ring.proofs.Totals.{pair-nil}
use Rattle.mlu_ring.proofs.Groups.{pair-one_more}
use Rattle.mlu_ring.proofs.field.Field.dot.Goals as goal

pub loop-i-init : goal.loop-i-init
loop-i-init g c = c.ZERO-sum.ensures ∙ g.met.Self.Additive.zero_is ∙ sym (pair-nil g.Self.Additive.ring g.met.Self.Additive.laws c.args.r.now)

pub loop-i-preserved : goal.loop-i-preserved
loop-i-preserved g c =
    pair-one_more g.Self.Additive.ring g.met.Self.Additive.laws c.args.l.now c.args.r.now c.loop-i.i c.index-l-i.result c.index-r-i.result
    c.loop-i.sum c.mul.result c.add-sum.result c.requires c.loop-i-test.true c.index-l-i.is c.index-r-i.is c.loop-i.invariant
    (g.met.Self.PrimeCharacteristicRing.multiplies _ _ _ c.mul.ensures) (g.met.Self.Additive.adds _ _ _ c.add-sum.ensures)

pub returns : goal.returns
returns g c = c.loop-i.invariant ∙ ap (λ w. pair g.Self.Additive.ring w c.args.r.now) (take_all c.loop-i.i c.args.l.now c.loop-i-test.false)
