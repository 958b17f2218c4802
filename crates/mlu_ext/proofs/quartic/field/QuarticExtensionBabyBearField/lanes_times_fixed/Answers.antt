-- The product of the one lane is that of its ring.
use Rattle.std.proofs.Common.{◌≡◌, ◌∙◌, get_or, ap, arith}
use Rattle.mlu_lanes.specs.BabyBear.{baby_bear_ring}
use Rattle.mlu_lanes.proofs.Entrywise.{product_by_lane}
use Rattle.mlu_ext.specs.Quartic.{quartic_ring}
use Rattle.mlu_ext.proofs.quartic.field.QuarticExtensionBabyBearField.lanes_times_fixed.Goals as goal

pub returns : goal.returns
returns g c =
    product_by_lane (quartic_ring (baby_bear_ring g.row.W)) c.args.p c.args.factor c.from_array.result (λ k below d.
    let first : k ≡ 0 = omega (arith, below) in
    let made = ap (λ values. get_or values 0 d) c.from_array.ensures in
    let product = c.times_fixed.ensures in
    let left = c.lane.ensures d in
    let right = c.lane-2.ensures d in
    rw first (made ∙ cc (product, left, right)))
