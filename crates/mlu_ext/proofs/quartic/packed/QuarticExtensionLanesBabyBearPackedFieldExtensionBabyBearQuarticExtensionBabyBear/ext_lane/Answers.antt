-- The coefficients are those of lane k.
use Rattle.std.proofs.Common.{sym, ◌∙◌}
use Rattle.mlu_lanes.specs.BabyBear.{baby_bear_ring}
use Rattle.mlu_ext.specs.QuarticLaws.{quartic_same}
use Rattle.mlu_ext.proofs.QuarticLanes.{quartic-of_lane}
use Rattle.mlu_ext.proofs.quartic.packed.QuarticExtensionLanesBabyBearPackedFieldExtensionBabyBearQuarticExtensionBabyBear.ext_lane.Goals as goal

pub returns : goal.returns
returns g c =
    λ e.
    let zero = (baby_bear_ring g.row.W).zero in
    quartic_same (c.lane.ensures zero) (c.lane-2.ensures zero) (c.lane-3.ensures zero) (c.lane-4.ensures zero)
    ∙ sym (quartic-of_lane g.row.W zero c.args.self.now c.args.k e c.requires)
