use Rattle.std.proofs.Common.{◌∷◌, get_or, sym, ap, ◌∙◌}
use Rattle.mlu_sumcheck.proofs.Caught.{decided, true_or_caught}
use Rattle.mlu_sumcheck.proofs.laws.caught.Goals as goal

pub returns : goal.returns
returns g c =
    let ring = g.EF.Additive.ring in
    let fit = c.requires.fit in
    let claims = c.args.first ∷ fit.0 in
    true_or_caught ring g.met.EF.Additive.laws (decided g.EF.PartialEq.eq g.met.EF.Additive.eq_is)
    c.args.challenges.now c.args.rounds.now claims c.args.weights.now c.args.poly.now
    c.requires.weights_size c.requires.poly_size c.requires.number fit.1
    (ap (λ n. get_or claims n ring.zero) (sym c.requires.number) ∙ fit.2 ∙ c.requires.values)
