use Rattle.std.proofs.Common.{◌≡◌, ◌<◌, ◌∙◌, List, map, length, ap, arith}
use Rattle.std.proofs.Math.Path.{fun_ext}
use Rattle.std.proofs.lemmas.List.{map-id, get_or_default}
use Rattle.mlu_ring.specs.Ring.{Ring, RingLaws}
use Rattle.mlu_ring.specs.Tables.{weights}
use Rattle.mlu_sumcheck.specs.Rounds.{rounds_of, product_of_values}
use Rattle.mlu_command.proofs.proof.proof.Goals as goal

-- a table at scale one
at_one : {R : Type 0} (ring : Ring R) → RingLaws ring → (one : R) (w split : List R) → one ≡ ring.one → split ≡ map (ring.product one) w → split ≡ w
at_one {R} ring laws one w split is_one is =
    let unit : (x : R) → ring.product one x ≡ x = λ x. ap (λ t. ring.product t x) is_one ∙ laws.one_product x in
    let same : ring.product one ≡ (λ x. x) = fun_ext unit in
    is ∙ ap (λ f. map f w) same ∙ map-id w

pub returns-clause-rounds : goal.returns-clause-rounds
returns-clause-rounds g c =
    let ring = g.R.Additive.ring in
    let whole = at_one ring g.met.R.Additive.laws c.ONE.result (weights ring c.args.point.now) _ (c.ONE.ensures ∙ g.met.R.Additive.one_is) c.in_ok-split.ensures.value in
    c.in_ok-rounds.ensures.rounds ∙ ap (λ w. rounds_of ring w c.args.table.now c.args.challenges.now) whole

pub returns-clause-last : goal.returns-clause-last
returns-clause-last g c =
    let ring = g.R.Additive.ring in
    let whole = at_one ring g.met.R.Additive.laws c.ONE.result (weights ring c.args.point.now) _ (c.ONE.ensures ∙ g.met.R.Additive.one_is) c.in_ok-split.ensures.value in
    let within : length c.args.challenges.now < length c.in_ok-rounds.field-0.claims.items = omega (arith, c.in_ok-rounds.ensures.number_of_claims) in
    c.index-last.ensures ∙ get_or_default c.in_ok-rounds.field-0.claims.items (length c.args.challenges.now) _ ring.zero within
    ∙ c.in_ok-rounds.ensures.last ∙ ap (λ w. product_of_values ring w c.args.table.now c.args.challenges.now) whole
