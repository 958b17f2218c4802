use Rattle.std.proofs.Common.{◌≡◌, ◌∷◌, [], ◌∙◌, set, ap, sym, subst, arith}
use Rattle.mlu_ring.specs.Fours.{in_order}
use Rattle.mlu_ring.specs.Lanes.{IsLists}
use Rattle.mlu_ring.specs.Tables.{pair}
use Rattle.mlu_ring.proofs.Pairs.{pair-of_four}
use Rattle.mlu_ring.proofs.Filled.{written}
use Rattle.mlu_eq.proofs.FourScaled.{four_scaled}
use Rattle.mlu_eq.proofs.split.dot.four_scaled.Goals as goal

pub returns-then-DIMENSION-ne-COEFFICIENTS : goal.returns-then-DIMENSION-ne-COEFFICIENTS
returns-then-DIMENSION-ne-COEFFICIENTS g c =
    let ring = g.EF.Additive.ring in
    let embed = g.EF.Algebra.embed in
    let w = c.args.weights.now in
    let x = c.args.elements.now in
    let adds = g.met.EF.Additive.adds in
    let first = adds _ _ _ c.add.ensures ∙ (λ i. ring.sum (c.scale.ensures i) (c.scale-then-DIMENSION-ne-COEFFICIENTS.ensures i)) in
    let second = adds _ _ _ c.add-then-DIMENSION-ne-COEFFICIENTS.ensures ∙ (λ i. ring.sum (c.scale-then-DIMENSION-ne-COEFFICIENTS-2.ensures i) (c.scale-then-DIMENSION-ne-COEFFICIENTS-3.ensures i)) in
    adds _ _ _ c.add-then-DIMENSION-ne-COEFFICIENTS-2.ensures
    ∙ (λ i. ring.sum (first i) (second i))
    ∙ sym (pair-of_four ring g.met.EF.Additive.laws w.0 w.1 w.2 w.3 (embed x.0) (embed x.1) (embed x.2) (embed x.3))

pub returns : goal.returns
returns g c =
    let base = g.F.Additive.ring in
    let coefficients = g.EF.ExtensionField.coefficients in
    let met = g.met.EF.ExtensionField in
    let w = c.args.weights.now in
    let x = c.args.elements.now in
    let four : g.EF.ExtensionField.DIMENSION ≡ 4 = omega (arith, c.DIMENSION.ensures, c.if-DIMENSION-ne-COEFFICIENTS.false) in
    let are = subst (λ n. IsLists n coefficients g.EF.ExtensionField.of_coefficients) four met.coefficients_are in
    let t = c.row_times_columns-constant.result in
    let sums = c.row_times_columns-constant.ensures in
    let dot = pair base (in_order x) in
    four_scaled base g.met.F.Additive.laws g.EF.Additive.ring g.met.EF.Additive.laws coefficients g.EF.ExtensionField.of_coefficients are g.EF.Algebra.embed met.coefficients_sum met.coefficients_scale
    c.set_coefficient-4.new.self w.0 w.1 w.2 w.3 x.0 x.1 x.2 x.3
    (c.set_coefficient-4.ensures
    ∙ ap (λ l. set l 3 t.3) (c.set_coefficient-3.ensures ∙ ap (λ l. set l 2 t.2) (c.set_coefficient-2.ensures ∙ ap (λ l. set l 1 t.1) c.set_coefficient.ensures))
    ∙ written (coefficients c.ZERO-sum.result) t.0 t.1 t.2 t.3 (are.length-parts c.ZERO-sum.result)
    ∙ (λ i. (sums.first ∙ ap dot c.column.ensures) i ∷ (sums.second ∙ ap dot c.column-2.ensures) i ∷ (sums.third ∙ ap dot c.column-3.ensures) i ∷ (sums.fourth ∙ ap dot c.column-4.ensures) i ∷ []))
