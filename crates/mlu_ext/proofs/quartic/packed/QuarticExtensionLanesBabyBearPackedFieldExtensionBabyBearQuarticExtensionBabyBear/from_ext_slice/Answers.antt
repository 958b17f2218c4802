-- The coefficients are the columns of the elements.
use Rattle.mlu_lanes.specs.BabyBear.{baby_bear_ring}
use Rattle.mlu_ext.specs.Quartic.{quartic}
use Rattle.mlu_ext.proofs.QuarticLanes.{quartic-of_columns}
use Rattle.mlu_ext.proofs.quartic.packed.QuarticExtensionLanesBabyBearPackedFieldExtensionBabyBearQuarticExtensionBabyBear.from_ext_slice.Goals as goal

pub returns : goal.returns
returns g c =
    let columns = c.coefficient_columns-c0.result in
    let are = c.coefficient_columns-c0.ensures in
    quartic-of_columns g.row.W (baby_bear_ring g.row.W).zero (quartic columns.0 columns.1 columns.2 columns.3) c.args.values.now c.requires are.first are.second are.third are.fourth
