-- The sums of products of coefficients, joined by the powers of X on the left.
use Rattle.std.specs.Prelude.{[], ◌∷◌}
use Rattle.std.proofs.Common.{refl, ◌∙◌}
use Rattle.mlu_ext.specs.QuarticLaws.{quartic_same}
use Rattle.mlu_ext.proofs.QuarticDots.{joined-dot}
use Rattle.mlu_ext.proofs.quartic.ring.QuarticExtensionPrimeCharacteristicRing.four_products.Goals as goal

pub returns : goal.returns
returns g c =
    let l = c.args.l.now in
    let r = c.args.r.now in
    let constant = c.row_times_columns-constant.ensures in
    let linear = c.row_times_columns-linear.ensures in
    let quadratic = c.row_times_columns-quadratic.ensures in
    let cubic = c.row_times_columns-cubic.ensures in
    c.joined_powers.ensures
    ∙ joined-dot g.R.Additive.ring g.met.R.Additive.laws (l.0 ∷ l.1 ∷ l.2 ∷ l.3 ∷ []) (r.0 ∷ r.1 ∷ r.2 ∷ r.3 ∷ []) _ _ _ _ refl
    (quartic_same constant.first constant.second constant.third constant.fourth)
    (quartic_same linear.first linear.second linear.third linear.fourth)
    (quartic_same quadratic.first quadratic.second quadratic.third quadratic.fourth)
    (quartic_same cubic.first cubic.second cubic.third cubic.fourth)
