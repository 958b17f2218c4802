use Rattle.std.proofs.Common.{◌≡◌, ◌∙◌, length, get_or, ap, sym, rules}
use Rattle.std.proofs.lemmas.Bool.{false≢true, not-true, not-false}
use Rattle.mlu_ring.specs.Tables.{univariate}
use Rattle.mlu_sumcheck.specs.Rounds.{AddsUpTo}
use Rattle.mlu_sumcheck.proofs.Rounds.{adds_up-three, three-read}
use Rattle.mlu_sumcheck.proofs.verifier.verify_round.Goals as goal

pub returns-then-ne : goal.returns-then-ne
returns-then-ne g c =
    let ring = g.EF.Additive.ring in
    let met = g.met.EF in
    let round = c.args.round in
    let constant = get_or round 0 c.index-round-0.result in
    let linear = get_or round 1 c.index-round-1.result in
    let quadratic = get_or round 2 c.index-round-2.result in
    let long : length c.args.round ≡ 3 = search rules in
    let two = met.Additive.adds _ _ _ c.add.ensures ∙ ap (λ t. ring.sum t linear) c.double.ensures in
    let three = met.Additive.adds _ _ _ c.add-2.ensures ∙ ap (λ t. ring.sum t quadratic) two in
    let whole : AddsUpTo ring c.add-2.result round = ap (λ t. ring.sum (univariate ring t ring.zero) (univariate ring t ring.one)) (sym (three-read round _ _ _ long)) ∙ adds_up-three ring met.Additive.laws constant linear quadratic ∙ sym three in
    λ is.
    let same = (met.Additive.eq_is c.add-2.result c.args.claim).1 (sym whole ∙ is) in
    false≢true (sym (not-true _ (sym c.ne.ensures ∙ c.if-ne.true)) ∙ same)

pub returns : goal.returns
returns g c =
    let ring = g.EF.Additive.ring in
    let met = g.met.EF in
    let round = c.args.round in
    let constant = get_or round 0 c.index-round-0.result in
    let linear = get_or round 1 c.index-round-1.result in
    let quadratic = get_or round 2 c.index-round-2.result in
    let long : length c.args.round ≡ 3 = search rules in
    let two = met.Additive.adds _ _ _ c.add.ensures ∙ ap (λ t. ring.sum t linear) c.double.ensures in
    let three = met.Additive.adds _ _ _ c.add-2.ensures ∙ ap (λ t. ring.sum t quadratic) two in
    let whole : AddsUpTo ring c.add-2.result round = ap (λ t. ring.sum (univariate ring t ring.zero) (univariate ring t ring.one)) (sym (three-read round _ _ _ long)) ∙ adds_up-three ring met.Additive.laws constant linear quadratic ∙ sym three in
    (whole ∙ (met.Additive.eq_is c.add-2.result c.args.claim).0 (not-false _ (sym c.ne.ensures ∙ c.if-ne.false)), c.value_at.ensures ∙ ap (λ t. univariate ring t c.args.r) (three-read round _ _ _ long))
