use Rattle.std.proofs.Common.{◌≡◌, ◌+◌, ◌-◌, ◌<◌, ◌∷◌, [], suc, length, take, ap, sym, ◌∙◌, arith}
use Rattle.std.proofs.lemmas.Nat.{pow_pos}
use Rattle.mlu_ring.specs.Tables.{front, line, pair, univariate}
use Rattle.mlu_ring.proofs.PowersOfTwo.{power_injective}
use Rattle.mlu_ring.proofs.Tabulated.{tabulate}
use Rattle.mlu_sumcheck.specs.Rounds.{round, folded, round_at}
use Rattle.mlu_sumcheck.proofs.Folded.{halves-folded_at, folded-take_more}
use Rattle.mlu_sumcheck.proofs.Chains.{claim_at, tabulate-pushed, round_at-next, length-transcript_rounds, length-transcript_claims, transcript-fit, transcript-last}
use Rattle.mlu_sumcheck.proofs.prover.transcribe.Goals as goal

pub coefficients_of_claim-constant-requires-clause-sizes : goal.coefficients_of_claim-constant-requires-clause-sizes
coefficients_of_claim-constant-requires-clause-sizes g c =
    let ring = g.EF.Additive.ring in
    let challenges = c.args.challenges.now in
    let i = c.loop-challenge.challenge-index in
    let below : i < length challenges = omega (arith, c.loop-challenge-test.true) in
    let e = ap length (c.as_slice.ensures.value ∙ c.loop-challenge.invariant.poly) ∙ halves-folded_at ring challenges c.args.poly i c.requires.poly_size below in
    let w = ap length (c.as_slice-in-loop-challenge.ensures.value ∙ c.loop-challenge.invariant.weights) ∙ halves-folded_at ring challenges c.args.weights i c.requires.weights_size below in
    e ∙ sym w

pub coefficients_of_claim-constant-requires-clause-halves : goal.coefficients_of_claim-constant-requires-clause-halves
coefficients_of_claim-constant-requires-clause-halves g c =
    let challenges = c.args.challenges.now in
    let i = c.loop-challenge.challenge-index in
    let below : i < length challenges = omega (arith, c.loop-challenge-test.true) in
    let e = ap length (c.as_slice.ensures.value ∙ c.loop-challenge.invariant.poly) ∙ halves-folded_at g.EF.Additive.ring challenges c.args.poly i c.requires.poly_size below in
    omega (arith, e)

pub bind-requires-clause-sizes : goal.bind-requires-clause-sizes
bind-requires-clause-sizes g c =
    let ring = g.EF.Additive.ring in
    let challenges = c.args.challenges.now in
    let i = c.loop-challenge.challenge-index in
    let below : i < length challenges = omega (arith, c.loop-challenge-test.true) in
    let e = ap length c.loop-challenge.invariant.poly ∙ halves-folded_at ring challenges c.args.poly i c.requires.poly_size below in
    let w = ap length c.loop-challenge.invariant.weights ∙ halves-folded_at ring challenges c.args.weights i c.requires.weights_size below in
    e ∙ sym w

pub bind-requires-clause-variable : goal.bind-requires-clause-variable
bind-requires-clause-variable g c =
    let challenges = c.args.challenges.now in
    let i = c.loop-challenge.challenge-index in
    let below : i < length challenges = omega (arith, c.loop-challenge-test.true) in
    let e = ap length c.loop-challenge.invariant.poly ∙ halves-folded_at g.EF.Additive.ring challenges c.args.poly i c.requires.poly_size below in
    omega (arith, e, pow_pos (length challenges - suc i))

pub push_reserved-requires-in-loop-challenge : goal.push_reserved-requires-in-loop-challenge
push_reserved-requires-in-loop-challenge g c =
    let same = power_injective _ _ (sym c.num_variables-variables.ensures.value ∙ c.requires.poly_size) in
    let len = c.loop-challenge.invariant.rounds_len in
    let room = c.loop-challenge.invariant.rounds_room in
    omega (arith, c.loop-challenge-test.true, same, len, room)

pub loop-challenge-preserved : goal.loop-challenge-preserved
loop-challenge-preserved g c =
    let ring = g.EF.Additive.ring in
    let laws = g.met.EF.Additive.laws in
    let challenges = c.args.challenges.now in
    let w = c.args.weights in
    let e = c.args.poly in
    let i = c.loop-challenge.challenge-index in
    let r = c.challenge-item.result in
    let invariant = c.loop-challenge.invariant in
    let below : i < length challenges = omega (arith, c.loop-challenge-test.true) in
    let next : suc i ≡ i + 1 = omega arith in
    let poly = c.as_slice.ensures.value ∙ invariant.poly in
    let weights = c.as_slice-in-loop-challenge.ensures.value ∙ invariant.weights in
    let true_claim = invariant.claim ∙ ap (λ t. pair ring t (folded ring (take i challenges) e)) (sym weights) ∙ ap (pair ring c.as_slice-in-loop-challenge.result.now) (sym poly) in
    let made = c.coefficients_of_claim-constant.ensures.round true_claim ∙ ap (λ t. round ring t c.as_slice.result.now) weights ∙ ap (round ring (folded ring (take i challenges) w)) poly in
    let claim = c.value_at-claim.ensures ∙ ap (λ t. univariate ring t r) made ∙ round_at-next ring laws w e challenges c.requires.weights_size c.requires.poly_size i r below c.challenge-item.is in
    record {
      poly = c.bind.ensures.poly_folded ∙ ap (front ring (line ring r)) invariant.poly ∙ sym (folded-take_more ring challenges e i r below c.challenge-item.is) ∙ ap (λ k. folded ring (take k challenges) e) next;
      weights = c.bind.ensures.weights_folded ∙ ap (front ring (line ring r)) invariant.weights ∙ sym (folded-take_more ring challenges w i r below c.challenge-item.is) ∙ ap (λ k. folded ring (take k challenges) w) next;
      rounds = tabulate-pushed i (round_at ring w e challenges) c.loop-challenge.rounds.items c.push_reserved-in-loop-challenge.new.self.items (c.coefficients_of_claim-constant.result.0 ∷ c.coefficients_of_claim-constant.result.1 ∷ c.coefficients_of_claim-constant.result.2 ∷ []) invariant.rounds c.push_reserved-in-loop-challenge.ensures.items made ∙ ap (λ k. tabulate k (round_at ring w e challenges)) next;
      claim = claim ∙ ap (claim_at ring w e challenges) next;
      claims = tabulate-pushed (suc i) (claim_at ring w e challenges) c.loop-challenge.claims.items c.push_reserved-in-loop-challenge-2.new.self.items c.value_at-claim.result invariant.claims c.push_reserved-in-loop-challenge-2.ensures.items claim ∙ ap (λ k. tabulate (suc k) (claim_at ring w e challenges)) next;
      rounds_len = c.push_reserved-in-loop-challenge.ensures.len ∙ ap (λ n. n + 1) invariant.rounds_len;
      claims_len = c.push_reserved-in-loop-challenge-2.ensures.len ∙ ap (λ n. n + 1) invariant.claims_len;
      rounds_room = c.push_reserved-in-loop-challenge.ensures.capacity ∙ invariant.rounds_room;
      claims_room = c.push_reserved-in-loop-challenge-2.ensures.capacity ∙ invariant.claims_room;
    }

pub returns-clause-number_of_rounds : goal.returns-clause-number_of_rounds
returns-clause-number_of_rounds g c =
    let end : c.loop-challenge.challenge-index ≡ length c.args.challenges.now = omega (arith, c.loop-challenge-test.false) in
    let invariant = rw end at c.loop-challenge.invariant in
    length-transcript_rounds g.EF.Additive.ring g.met.EF.Additive.laws c.args.weights c.args.poly c.args.challenges.now c.requires.weights_size c.requires.poly_size _ _ invariant.rounds invariant.claims

pub returns-clause-number_of_claims : goal.returns-clause-number_of_claims
returns-clause-number_of_claims g c =
    let end : c.loop-challenge.challenge-index ≡ length c.args.challenges.now = omega (arith, c.loop-challenge-test.false) in
    let invariant = rw end at c.loop-challenge.invariant in
    length-transcript_claims g.EF.Additive.ring g.met.EF.Additive.laws c.args.weights c.args.poly c.args.challenges.now c.requires.weights_size c.requires.poly_size _ _ invariant.rounds invariant.claims

pub returns-clause-exact_rounds : goal.returns-clause-exact_rounds
returns-clause-exact_rounds g c =
    c.loop-challenge.invariant.rounds_room ∙ power_injective _ _ (sym c.num_variables-variables.ensures.value ∙ c.requires.poly_size)

pub returns-clause-exact_claims : goal.returns-clause-exact_claims
returns-clause-exact_claims g c =
    let same = power_injective _ _ (sym c.num_variables-variables.ensures.value ∙ c.requires.poly_size) in
    c.loop-challenge.invariant.claims_room ∙ omega (arith, same)

pub returns-clause-fit : goal.returns-clause-fit
returns-clause-fit g c =
    let end : c.loop-challenge.challenge-index ≡ length c.args.challenges.now = omega (arith, c.loop-challenge-test.false) in
    let invariant = rw end at c.loop-challenge.invariant in
    transcript-fit g.EF.Additive.ring g.met.EF.Additive.laws c.args.weights c.args.poly c.args.challenges.now c.requires.weights_size c.requires.poly_size _ _ invariant.rounds invariant.claims

pub returns-clause-last : goal.returns-clause-last
returns-clause-last g c =
    let end : c.loop-challenge.challenge-index ≡ length c.args.challenges.now = omega (arith, c.loop-challenge-test.false) in
    let invariant = rw end at c.loop-challenge.invariant in
    transcript-last g.EF.Additive.ring g.met.EF.Additive.laws c.args.weights c.args.poly c.args.challenges.now c.requires.weights_size c.requires.poly_size _ _ invariant.rounds invariant.claims
