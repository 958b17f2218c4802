use Rattle.std.proofs.Common.{◌<◌, ◌∙◌, length, ap, sym, subst}
use Rattle.mlu_ring.specs.Tables.{pair}
use Rattle.mlu_ring.proofs.PowersOfTwo.{power_of_test, half_power}
use Rattle.mlu_sumcheck.specs.Rounds.{lower, rise, round}
use Rattle.mlu_sumcheck.proofs.prover.prove_round_of_claim.Goals as goal

pub coefficients_of_claim-round-requires-clause-sizes : goal.coefficients_of_claim-round-requires-clause-sizes
coefficients_of_claim-round-requires-clause-sizes g c = ap length c.as_slice.ensures.value ∙ c.requires.sizes ∙ sym (ap length c.as_slice-2.ensures.value)

pub coefficients_of_claim-round-requires-clause-halves : goal.coefficients_of_claim-round-requires-clause-halves
coefficients_of_claim-round-requires-clause-halves g c =
    let more : 1 < length c.as_slice.result.now = subst (λ l. 1 < length l) (sym c.as_slice.ensures.value) c.requires.variable in
    (half_power _ _ (power_of_test (length c.as_slice.result.now) c.as_slice.type_inv.0 c.as_slice.ensures.power) more).2

pub returns : goal.returns
returns g c =
    let ring = g.EF.Additive.ring in
    let e = c.as_slice.ensures.value in
    let w = c.as_slice-2.ensures.value in
    let round_is = c.coefficients_of_claim-round.ensures in
    record {
      constant = round_is.constant ∙ ap (λ t. pair ring (lower t) (lower c.as_slice.result.now)) w ∙ ap (λ t. pair ring (lower c.args.weights.now) (lower t)) e;
      quadratic = round_is.quadratic ∙ ap (λ t. pair ring (rise ring t) (rise ring c.as_slice.result.now)) w ∙ ap (λ t. pair ring (rise ring c.args.weights.now) (rise ring t)) e;
      adds_up = round_is.adds_up;
      round = λ true_claim. round_is.round (true_claim ∙ ap (λ t. pair ring t c.args.poly.now) (sym w) ∙ ap (pair ring c.as_slice-2.result.now) (sym e))
          ∙ ap (λ t. round ring t c.as_slice.result.now) w ∙ ap (round ring c.args.weights.now) e;
    }
