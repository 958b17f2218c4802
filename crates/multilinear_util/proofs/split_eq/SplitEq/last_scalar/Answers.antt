use Rattle.std.proofs.Common.{◌-◌, ◌<◌, ◌∙◌, length, get_or, ap, subst, rules}
use Rattle.std.proofs.lemmas.List.{get_or_default}
use Rattle.mlu_eq.proofs.Lengths.{positive_of_test}
use Rattle.multilinear_util.proofs.Successors.{last-contents}
use Rattle.multilinear_util.proofs.split_eq.SplitEq.last_scalar.Goals as goal

pub returns : goal.returns
returns g c =
    let ring = g.EF.Additive.ring in
    let split = c.args.self.now in
    let eq0 = c.as_slice-eq0.result.now in
    let x = c.index-eq0-eq0.result in
    let shown = c.as_slice-eq0.ensures.value ∙ c.eq0.ensures in
    let some : 0 < length eq0 = positive_of_test (length eq0) c.as_slice-eq0.type_inv.0 c.as_slice-eq0.ensures.power in
    let first = c.index-eq0-eq0.is ∙ get_or_default eq0 (length eq0 - 1) x ring.zero (search rules) in
    g.met.EF.PrimeCharacteristicRing.multiplies x c.last_scalar.result c.mul.result c.mul.ensures
    ∙ ap (λ t. ring.product t c.last_scalar.result) (first ∙ ap (λ l. get_or l (length l - 1) ring.zero) shown)
    ∙ ap (ring.product (get_or split.eq0 (length split.eq0 - 1) ring.zero)) (c.last_scalar.ensures ∙ ap (λ half. get_or half.weights (length half.weights - 1) ring.zero) c.eq1.ensures)
    ∙ last-contents ring g.met.EF.Additive.laws split.eq0 split.eq1.weights (subst (λ l. 0 < length l) shown some)
