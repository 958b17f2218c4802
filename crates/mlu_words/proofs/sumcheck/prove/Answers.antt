use Rattle.std.proofs.Common.{◌∙◌, length, ap, refl, subst}
use Rattle.std.specs.Prelude.{flat_map}
use Rattle.mlu_ring.specs.Tables.{pair, value, weights}
use Rattle.mlu_sumcheck.specs.Rounds.{rounds_of, round_at, Fit}
use Rattle.mlu_words.proofs.Lengths.{length-joined}
use Rattle.mlu_words.proofs.Scales.{at_one}
use Rattle.mlu_words.proofs.sumcheck.prove.Goals as goal

pub returns-clause-rounds : goal.returns-clause-rounds
returns-clause-rounds g c =
    let ring = g.EF.Additive.ring in
    let whole = at_one ring g.met.EF.Additive.laws c.ONE.result (weights ring c.args.point.now) _ (c.ONE.ensures ∙ g.met.EF.Additive.one_is) c.in_ok-weights.ensures.value in
    c.in_ok-elements.ensures
    ∙ ap (flat_map (λ round. round)) (c.as_slice.ensures.value ∙ c.in_ok-rounds.ensures.rounds ∙ ap (λ w. rounds_of ring w c.args.table.now c.args.challenges.now) whole)

pub returns-clause-claims : goal.returns-clause-claims
returns-clause-claims g c =
    let ring = g.EF.Additive.ring in
    let table = c.args.table.now in
    let challenges = c.args.challenges.now in
    let whole = at_one ring g.met.EF.Additive.laws c.ONE.result (weights ring c.args.point.now) _ (c.ONE.ensures ∙ g.met.EF.Additive.one_is) c.in_ok-weights.ensures.value in (
      c.in_ok-rounds.ensures.first ∙ ap (λ w. pair ring w table) whole,
      subst (λ rounds. Fit ring c.in_ok-rounds.field-0.claims.items rounds challenges) (c.in_ok-rounds.ensures.rounds ∙ ap (λ w. rounds_of ring w table challenges) whole) c.in_ok-rounds.ensures.fit,
      c.in_ok-rounds.ensures.last ∙ ap (λ w. ring.product (value ring w challenges) (value ring table challenges)) whole,
    )

pub returns-clause-round_elements : goal.returns-clause-round_elements
returns-clause-round_elements g c =
    let ring = g.EF.Additive.ring in
    ap length (returns-clause-rounds g c)
    ∙ length-joined (round_at ring (weights ring c.args.point.now) c.args.table.now c.args.challenges.now) (λ i. refl) 0 (length c.args.challenges.now)
