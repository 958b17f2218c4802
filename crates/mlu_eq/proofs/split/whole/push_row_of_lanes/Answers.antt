use Rattle.std.proofs.Common.{length, arith}
use Rattle.mlu_eq.proofs.Accumulations.{scaled-more}
use Rattle.mlu_eq.proofs.Appended.{appended-more, room_for_row}
use Rattle.mlu_eq.proofs.split.whole.push_row_of_lanes.Goals as goal

pub push_lanes-requires : goal.push_lanes-requires
push_lanes-requires g c =
    room_for_row c.args.table.now c.loop-weight.table _ (length c.args.weights.now) c.loop-weight.weight-index g.F.Packing.PackedValue.WIDTH
    c.loop-weight-test.true c.requires c.loop-weight.invariant

pub loop-weight-preserved : goal.loop-weight-preserved
loop-weight-preserved g c =
    let packed = g.EF.ExtensionPacking in
    let ext = packed.PackedFieldExtension in
    let met = g.met.EF.ExtensionPacking.PackedFieldExtension in
    let x = c.args.factor in
    appended-more c.args.table.now c.loop-weight.table c.push_lanes.new.table _ _ _ _ _ _ c.loop-weight.invariant c.push_lanes.ensures
    (scaled-more packed.Additive.ring g.EF.Additive.ring g.met.EF.Additive.laws ext.ext_lanes ext.of_ext_lanes g.F.Packing.PackedValue.WIDTH met.lanes_are met.lane_by_lane
    (packed.Algebra-1.embed x) c.weight-item.result c.scale-scaled.result c.args.weights.now c.loop-weight.weight-index x
    c.loop-weight-test.true c.weight-item.is (met.embeds_element x) c.scale-scaled.ensures)
    (omega arith)
