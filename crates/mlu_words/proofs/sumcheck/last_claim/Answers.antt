use Rattle.std.proofs.Common.{◌∙◌, List, ap, subst}
use Rattle.mlu_sumcheck.specs.Rounds.{IsLastClaim}
use Rattle.mlu_words.specs.Calls.{triples}
use Rattle.mlu_words.specs.Codings.{elements_of}
use Rattle.mlu_words.proofs.sumcheck.last_claim.Goals as goal

pub returns : goal.returns
returns g c =
    let R = g.row.R.Denot in
    let Decided : List (List R) → List R → Type 0 = λ rounds challenges. IsLastClaim g.R.Additive.ring c.args.claim rounds challenges c.verify.result in
    let rounds = c.as_slice-2.ensures.value ∙ c.in_ok-rounds.ensures.triples ∙ ap triples (c.as_slice.ensures.value ∙ c.in_ok-elements.ensures.elements) in
    let challenges = c.as_slice-3.ensures.value ∙ c.in_ok-challenges.ensures.elements in
    subst (λ rs. Decided rs (elements_of g.R.Words.coding c.args.challenges.now)) rounds (subst (λ cs. Decided c.as_slice-2.result.now cs) challenges c.verify.ensures)
