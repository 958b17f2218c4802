use Rattle.std.proofs.Common.{◌≡◌, ◌+◌, ◌/◌, ◌<◌, length, get_or, ap, sym, ◌∙◌, arith}
use Rattle.std.proofs.lemmas.List.{get_or_default}
use Rattle.mlu_ring.proofs.SumsBelow.{sum_below-zero}
use Rattle.mlu_sumcheck.proofs.Rounds.{high_term, sum-more, low-more, rise-more, round-sums}
use Rattle.mlu_sumcheck.proofs.prover.coefficients.Goals as goal

pub loop-i-init : goal.loop-i-init
loop-i-init g c =
    let ring = g.R.Additive.ring in
    let zero = g.met.R.Additive.zero_is in
    record {
      low = c.ZERO-at_zero.ensures ∙ zero ∙ sym (sum_below-zero ring _);
      high = c.ZERO-at_one.ensures ∙ zero ∙ sym (sum_below-zero ring _);
      steps = c.ZERO-quadratic.ensures ∙ zero ∙ sym (sum_below-zero ring _);
    }

pub loop-i-preserved : goal.loop-i-preserved
loop-i-preserved g c =
    let ring = g.R.Additive.ring in
    let met = g.met.R in
    let laws = met.Additive.laws in
    let w = c.args.weights.now in
    let e = c.args.poly.now in
    let h = length e / 2 in
    let i = c.loop-i.i in
    let within : i < length e / 2 = c.loop-i-test.true in
    let low = c.index-poly-i.is ∙ get_or_default e i c.index-poly-i.result ring.zero (omega (arith, within)) in
    let high = c.index-poly-half.is ∙ get_or_default e (h + i) c.index-poly-half.result ring.zero (omega (arith, within)) in
    let low_weight = c.index-weights-i.is ∙ get_or_default w i c.index-weights-i.result ring.zero (omega (arith, within, c.requires.sizes)) in
    let high_weight = c.index-weights-half.is ∙ get_or_default w (h + i) c.index-weights-half.result ring.zero (omega (arith, within, c.requires.sizes)) in
    record {
      low = low-more ring laws w e i _ _ c.loop-i.at_zero c.mul.result c.add-at_zero.result low_weight low (met.PrimeCharacteristicRing.multiplies _ _ _ c.mul.ensures)
          c.loop-i.invariant.low (met.Additive.adds _ _ _ c.add-at_zero.ensures);
      high = sum-more ring laws i (high_term ring h w e) c.loop-i.at_one c.mul-in-loop-i.result c.add-at_one.result c.loop-i.invariant.high
          (met.PrimeCharacteristicRing.multiplies _ _ _ c.mul-in-loop-i.ensures ∙ ap (λ t. ring.product t c.index-poly-half.result) high_weight ∙ ap (ring.product (get_or w (h + i) ring.zero)) high)
          (met.Additive.adds _ _ _ c.add-at_one.ensures);
      steps = rise-more ring laws h w e i _ _ _ _ c.sub.result c.sub-in-loop-i.result c.loop-i.quadratic c.mul-in-loop-i-2.result c.add-quadratic.result low_weight high_weight low high
          (met.Additive.subtracts _ _ _ c.sub.ensures) (met.Additive.subtracts _ _ _ c.sub-in-loop-i.ensures) (met.PrimeCharacteristicRing.multiplies _ _ _ c.mul-in-loop-i-2.ensures)
          c.loop-i.invariant.steps (met.Additive.adds _ _ _ c.add-quadratic.ensures);
    }

pub returns : goal.returns
returns g c =
    let ring = g.R.Additive.ring in
    let met = g.met.R in
    let w = c.args.weights.now in
    let e = c.args.poly.now in
    let h = length e / 2 in
    let end : c.loop-i.i ≡ length e / 2 = omega (arith, c.loop-i-test.false, c.loop-i.auto.i-end) in
    let invariant = rw end at c.loop-i.invariant in
    round-sums ring met.Additive.laws w e h c.loop-i.at_zero c.loop-i.at_one c.loop-i.quadratic c.sub-3.result
    (sym c.requires.sizes ∙ c.requires.halves) c.requires.halves invariant.low invariant.high invariant.steps
    (met.Additive.subtracts _ _ _ c.sub-3.ensures ∙ ap (λ t. ring.minus t c.loop-i.quadratic) (met.Additive.subtracts _ _ _ c.sub-2.ensures))
