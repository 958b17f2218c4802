-- The elements of the lanes below k are written.
use Rattle.std.proofs.Common.{◌≡◌, ◌+◌, ◌*◌, ◌<◌, length, sym, ◌∙◌, arith}
use Rattle.mlu_ring.proofs.Filled.{filled_next, filled_four_next, filled_whole}
use Rattle.mlu_lanes.specs.BabyBear.{baby_bear_ring}
use Rattle.mlu_ext.specs.Quartic.{constant}
use Rattle.mlu_ext.specs.QuarticLaws.{quartic_same}
use Rattle.mlu_ext.specs.QuarticPacked.{quartic_elements, quartic_elements_are_lists}
use Rattle.mlu_ext.proofs.QuarticLanes.{quartic-of_lane}
use Rattle.mlu_ext.proofs.quartic.packed.QuarticExtensionLanesBabyBearPackedFieldExtensionBabyBearQuarticExtensionBabyBear.store_ext.Goals as goal

pub loop-g-preserved : goal.loop-g-preserved
loop-g-preserved g c =
    let zero = (baby_bear_ring g.row.W).zero in
    let e = constant zero zero in
    let p = c.args.self.now in
    let n = 4 * c.loop-g.g in
    let lanes = c.four_lanes.ensures in
    let next : 4 * (c.loop-g.g + 1) ≡ 4 * c.loop-g.g + 4 = omega arith in
    let room : 4 * c.loop-g.g + 3 < length c.loop-g.out = omega (arith, c.requires, c.loop-g-test.true) in
    let within : 4 * c.loop-g.g + 3 < g.row.W = omega (arith, c.loop-g-test.true) in
    filled_four_next e c.loop-g.out (quartic_elements g.row.W zero p) n (4 * (c.loop-g.g + 1)) c.new.result c.new-in-loop-g.result c.new-in-loop-g-2.result c.new-in-loop-g-3.result next room c.loop-g.invariant
    (c.new.ensures ∙ quartic_same lanes.first.0 lanes.first.1 lanes.first.2 lanes.first.3 ∙ sym (quartic-of_lane g.row.W zero p (n) e (omega (arith, within))))
    (c.new-in-loop-g.ensures ∙ quartic_same lanes.second.0 lanes.second.1 lanes.second.2 lanes.second.3 ∙ sym (quartic-of_lane g.row.W zero p (n + 1) e (omega (arith, within))))
    (c.new-in-loop-g-2.ensures ∙ quartic_same lanes.third.0 lanes.third.1 lanes.third.2 lanes.third.3 ∙ sym (quartic-of_lane g.row.W zero p (n + 2) e (omega (arith, within))))
    (c.new-in-loop-g-3.ensures ∙ quartic_same lanes.fourth.0 lanes.fourth.1 lanes.fourth.2 lanes.fourth.3 ∙ sym (quartic-of_lane g.row.W zero p (n + 3) e (omega (arith, within))))

pub loop-k-preserved : goal.loop-k-preserved
loop-k-preserved g c =
    let zero = (baby_bear_ring g.row.W).zero in
    let e = constant zero zero in
    let elements = quartic_elements g.row.W zero c.args.self.now in
    filled_next e c.loop-k.out elements c.loop-k.k c.ext_lane.result (omega (arith, c.requires)) c.loop-k.invariant (c.ext_lane.ensures e)

pub returns : goal.returns
returns g c =
    let zero = (baby_bear_ring g.row.W).zero in
    let elements = quartic_elements g.row.W zero c.args.self.now in
    let long = (quartic_elements_are_lists g.row.W zero).length-parts c.args.self.now in
    let whole = filled_whole (constant zero zero) c.loop-k.out elements c.loop-k.k in
    whole (omega (arith, c.requires)) (omega (arith, c.requires, long)) c.loop-k.invariant
