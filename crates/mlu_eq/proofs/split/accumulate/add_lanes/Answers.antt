use Rattle.std.proofs.Common.{◌∙◌, ap, arith}
use Rattle.std.specs.Simd.Lanes.{zip2}
use Rattle.mlu_eq.proofs.Accumulations.{lanes_step, lanes_whole}
use Rattle.mlu_eq.proofs.split.accumulate.add_lanes.Goals as goal

pub loop-i-preserved : goal.loop-i-preserved
loop-i-preserved g c =
    let ring = g.EF.Additive.ring in
    let ext = g.EF.ExtensionPacking.PackedFieldExtension in
    let met = g.met.EF.ExtensionPacking.PackedFieldExtension in
    let x = c.args.factor in
    let scaled = c.scale-scaled.result in
    let sum = g.met.EF.ExtensionPacking.Additive.adds c.from_ext_slice.result scaled c.add-sum.result c.add-sum.ensures in
    lanes_step g.EF.ExtensionPacking.Additive.ring ring g.met.EF.Additive.laws ext.ext_lanes ext.of_ext_lanes g.F.Packing.PackedValue.WIDTH met.lanes_are met.lane_by_lane
    c.args.out.now c.loop-i.out c.store_ext.new.out c.args.weights.now (g.EF.ExtensionPacking.Algebra-1.embed x) c.index-weights-i.result c.scale-scaled.result x c.loop-i.i c.WIDTH-width.result
    c.loop-i-test.true c.requires c.WIDTH-width.ensures c.index-weights-i.is (met.embeds_element x) c.scale-scaled.ensures c.loop-i.invariant
    (c.store_ext.ensures ∙ ap ext.ext_lanes sum ∙ met.lane_by_lane.sum c.from_ext_slice.result scaled ∙ ap (λ vs. zip2 ring.sum vs (ext.ext_lanes scaled)) c.from_ext_slice.ensures)

pub returns : goal.returns
returns g c =
    let ext = g.EF.ExtensionPacking.PackedFieldExtension in
    let met = g.met.EF.ExtensionPacking.PackedFieldExtension in
    lanes_whole g.EF.ExtensionPacking.Additive.ring g.EF.Additive.ring g.met.EF.Additive.laws ext.ext_lanes ext.of_ext_lanes g.F.Packing.PackedValue.WIDTH met.lanes_are met.lane_by_lane
    c.args.out.now c.loop-i.out c.args.weights.now c.args.factor c.loop-i.i c.requires (omega arith) c.loop-i.invariant
