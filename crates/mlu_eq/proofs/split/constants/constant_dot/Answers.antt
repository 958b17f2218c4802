use Rattle.std.proofs.Common.{[], ◌∷◌, ◌∙◌, ap, sym, subst}
use Rattle.mlu_ring.specs.Lanes.{IsLists}
use Rattle.mlu_eq.proofs.Constants.{set-only, has_coefficient, constant-pair}
use Rattle.mlu_eq.proofs.split.constants.constant_dot.Goals as goal

pub returns : goal.returns
returns g c =
    let base = g.F.Additive in
    let coefficients = g.EF.ExtensionField.coefficients in
    let of_coefficients = g.EF.ExtensionField.of_coefficients in
    let met = g.met.EF.ExtensionField in
    let are = subst (λ n. IsLists n coefficients of_coefficients) c.requires.one met.coefficients_are in
    sym (has_coefficient coefficients of_coefficients are c.dot.result c.set_coefficient.new.self
    (c.set_coefficient.ensures ∙ set-only (coefficients c.ZERO-sum.result) c.dot.result (are.length-parts c.ZERO-sum.result)))
    ∙ ap (λ x. of_coefficients (x ∷ [])) c.dot.ensures
    ∙ constant-pair coefficients of_coefficients are base.ring g.met.F.Additive.laws g.EF.Additive.ring g.met.EF.Additive.laws g.EF.Algebra.embed
    met.coefficients_sum met.coefficients_scale c.args.column.now c.args.entries.now c.requires.long
