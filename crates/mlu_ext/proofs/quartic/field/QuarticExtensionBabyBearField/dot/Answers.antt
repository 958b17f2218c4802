-- The sums of products of coefficients, joined by the powers of X on the left.
use Rattle.std.proofs.Common.{◌∙◌}
use Rattle.mlu_lanes.specs.BabyBear.{baby_bear_ring, baby_bear_laws}
use Rattle.mlu_ext.specs.QuarticLaws.{quartic_same}
use Rattle.mlu_ext.proofs.QuarticDots.{joined-dot}
use Rattle.mlu_ext.proofs.quartic.field.QuarticExtensionBabyBearField.dot.Goals as goal

pub returns : goal.returns
returns g c =
    let constant = c.column_times_rows-constant.ensures in
    let linear = c.column_times_rows-linear.ensures in
    let quadratic = c.column_times_rows-quadratic.ensures in
    let cubic = c.column_times_rows-cubic.ensures in
    c.joined_powers.ensures
    ∙ joined-dot (baby_bear_ring g.row.W) (baby_bear_laws g.row.W) c.args.l.now c.args.r.now _ _ _ _ c.requires
    (quartic_same constant.first constant.second constant.third constant.fourth)
    (quartic_same linear.first linear.second linear.third linear.fourth)
    (quartic_same quadratic.first quadratic.second quadratic.third quadratic.fourth)
    (quartic_same cubic.first cubic.second cubic.third cubic.fourth)
