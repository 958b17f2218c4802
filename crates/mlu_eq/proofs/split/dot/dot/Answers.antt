use Rattle.std.proofs.Common.{◌≡◌, ◌+◌, ◌*◌, ◌<◌, ◌∙◌, length, take, ap, sym, arith}
use Rattle.std.proofs.lemmas.List.{take_all}
use Rattle.mlu_ring.specs.Tables.{pair}
use Rattle.mlu_ring.proofs.Totals.{pair-nil}
use Rattle.mlu_ring.proofs.Groups.{pair-take_more, pair-take_four_more}
use Rattle.mlu_eq.proofs.split.dot.dot.Goals as goal

pub loop-g-init : goal.loop-g-init
loop-g-init g c = c.ZERO-sum.ensures ∙ g.met.R.Additive.zero_is ∙ sym (pair-nil g.R.Additive.ring g.met.R.Additive.laws c.args.entries.now)

pub loop-g-preserved : goal.loop-g-preserved
loop-g-preserved g c =
    let ring = g.R.Additive.ring in
    let w = c.args.weights.now in
    let e = c.args.entries.now in
    let i = 4 * c.loop-g.g in
    let long = sym c.requires in
    let next : 4 * (c.loop-g.g + 1) ≡ 4 * c.loop-g.g + 4 = omega arith in
    let within : 4 * c.loop-g.g + 3 < length w = omega (arith, c.loop-g-test.true) in
    g.met.R.Additive.adds c.loop-g.sum c.four_products.result c.add-sum.result c.add-sum.ensures
    ∙ ap (λ t. ring.sum t c.four_products.result) c.loop-g.invariant
    ∙ ap (ring.sum (pair ring (take i w) e)) c.four_products.ensures
    ∙ sym (pair-take_four_more ring g.met.R.Additive.laws w e i (4 * (c.loop-g.g + 1)) _ _ _ _ _ _ _ _ next within long
    c.index-weights-i.is c.index-weights-i-in-loop-g.is c.index-weights-i-in-loop-g-2.is c.index-weights-i-in-loop-g-3.is
    c.index-entries-i.is c.index-entries-i-in-loop-g.is c.index-entries-i-in-loop-g-2.is c.index-entries-i-in-loop-g-3.is)

pub loop-i-preserved : goal.loop-i-preserved
loop-i-preserved g c =
    let ring = g.R.Additive.ring in
    let w = c.args.weights.now in
    let e = c.args.entries.now in
    let x = c.index-weights-i-in-loop-i.result in
    let y = c.index-entries-i-in-loop-i.result in
    g.met.R.Additive.adds c.loop-i.sum c.mul.result c.add-sum-in-loop-i.result c.add-sum-in-loop-i.ensures
    ∙ ap (ring.sum c.loop-i.sum) (g.met.R.PrimeCharacteristicRing.multiplies x y c.mul.result c.mul.ensures)
    ∙ ap (λ t. ring.sum t (ring.product x y)) c.loop-i.invariant
    ∙ sym (pair-take_more ring g.met.R.Additive.laws w e c.loop-i.i x y c.loop-i-test.true (omega (arith, c.requires, c.loop-i-test.true))
    c.index-weights-i-in-loop-i.is c.index-entries-i-in-loop-i.is)

pub returns : goal.returns
returns g c = c.loop-i.invariant ∙ ap (λ w. pair g.R.Additive.ring w c.args.entries.now) (take_all c.loop-i.i c.args.weights.now c.loop-i-test.false)
