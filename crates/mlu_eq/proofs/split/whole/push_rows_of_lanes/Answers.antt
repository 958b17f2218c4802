use Rattle.std.proofs.Common.{◌*◌, length}
use Rattle.mlu_ring.specs.Lanes.{logical}
use Rattle.mlu_eq.proofs.Appended.{no_rows_appended, row_appended}
use Rattle.mlu_eq.proofs.split.whole.push_rows_of_lanes.Goals as goal

pub loop-factor-init : goal.loop-factor-init
loop-factor-init g c = no_rows_appended g.EF.Additive.ring c.args.table.now c.args.table.now c.args.eq0.now (logical g.EF.ExtensionPacking.PackedFieldExtension.ext_lanes c.args.weights.now) (length c.args.weights.now * g.F.Packing.PackedValue.WIDTH)

pub loop-factor-preserved : goal.loop-factor-preserved
loop-factor-preserved g c =
    row_appended g.EF.Additive.ring c.args.table.now c.loop-factor.table c.args.eq0.now (logical g.EF.ExtensionPacking.PackedFieldExtension.ext_lanes c.args.weights.now) (length c.args.weights.now * g.F.Packing.PackedValue.WIDTH)
    c.push_row_of_lanes.new.table c.loop-factor.factor-index c.factor-item.result c.loop-factor-test.true c.factor-item.is c.loop-factor.invariant c.push_row_of_lanes.ensures
