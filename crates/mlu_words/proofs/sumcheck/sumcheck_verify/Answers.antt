use Rattle.std.proofs.Common.{None, refl, subst}
use Rattle.mlu_sumcheck.specs.Rounds.{IsLastClaim}
use Rattle.mlu_words.specs.Calls.{triples}
use Rattle.mlu_words.specs.Codings.{elements_of}
use Rattle.mlu_words.proofs.sumcheck.sumcheck_verify.Goals as goal

pub returns-in-None : goal.returns-in-None
returns-in-None g c =
    let tested = c.in_ok-check_verify.ensures in
    let rounds = triples (elements_of g.R.Words.coding c.args.rounds.now) in
    let challenges = elements_of g.R.Words.coding c.args.challenges.now in
    let none = rw c.in-None.is at c.in_ok-last.ensures in
    let never = subst (λ claim. IsLastClaim g.R.Additive.ring claim rounds challenges None) c.from_words.ensures none in
    (tested.0, tested.1, tested.2, (never, refl))
