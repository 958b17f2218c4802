use Rattle.std.proofs.Common.{◌+◌, ◌-◌, ◌*◌, ◌∙◌, take, drop, ap, arith}
use Rattle.std.specs.Simd.Lanes.{zip2}
use Rattle.mlu_eq.proofs.Accumulations.{lanes_step, lanes_whole}
use Rattle.mlu_eq.proofs.split.accumulate.add_lanes_by_elements.Goals as goal

pub loop-i-preserved : goal.loop-i-preserved
loop-i-preserved g c =
    let ring = g.EF.Additive.ring in
    let ext = g.EF.ExtensionPacking.PackedFieldExtension in
    let met = g.met.EF.ExtensionPacking.PackedFieldExtension in
    let x = c.args.factor in
    let v = c.WIDTH-width.result in
    let start = c.loop-i.i * v in
    lanes_step g.EF.ExtensionPacking.Additive.ring ring g.met.EF.Additive.laws ext.ext_lanes ext.of_ext_lanes g.F.Packing.PackedValue.WIDTH met.lanes_are met.lane_by_lane
    c.args.out.now c.loop-i.out c.add_each.new.out c.args.weights.now (g.EF.ExtensionPacking.Algebra-1.embed x) c.index-weights-i.result c.scale-scaled.result x c.loop-i.i v
    c.loop-i-test.true c.requires.size c.WIDTH-width.ensures c.index-weights-i.is (met.embeds_element x) c.scale-scaled.ensures c.loop-i.invariant
    (c.add_each.ensures ∙ ap (zip2 ring.sum (take (start + v - start) (drop start c.loop-i.out))) c.store_ext.ensures)

pub returns : goal.returns
returns g c =
    let ext = g.EF.ExtensionPacking.PackedFieldExtension in
    let met = g.met.EF.ExtensionPacking.PackedFieldExtension in
    lanes_whole g.EF.ExtensionPacking.Additive.ring g.EF.Additive.ring g.met.EF.Additive.laws ext.ext_lanes ext.of_ext_lanes g.F.Packing.PackedValue.WIDTH met.lanes_are met.lane_by_lane
    c.args.out.now c.loop-i.out c.args.weights.now c.args.factor c.loop-i.i c.requires.size (omega arith) c.loop-i.invariant
