use Rattle.std.proofs.Common.{◌∙◌, ap}
use Rattle.mlu_sumcheck.proofs.Rounds.{univariate-horner}
use Rattle.mlu_sumcheck.proofs.verifier.value_at.Goals as goal

pub returns : goal.returns
returns g c =
    let ring = g.R.Additive.ring in
    let met = g.met.R in
    let x = c.args.x in
    let last = met.PrimeCharacteristicRing.multiplies _ _ _ c.mul.ensures in
    let inner = met.Additive.adds _ _ _ c.add.ensures ∙ ap (ring.sum c.args.linear) last in
    let outer = met.PrimeCharacteristicRing.multiplies _ _ _ c.mul-2.ensures ∙ ap (ring.product x) inner in
    met.Additive.adds _ _ _ c.add-2.ensures ∙ ap (ring.sum c.args.constant) outer ∙ univariate-horner ring met.Additive.laws c.args.constant c.args.linear c.args.quadratic x
