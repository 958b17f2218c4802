use Rattle.std.proofs.Common.{◌≤◌, ◌∙◌, map, length, ap, sym}
use Rattle.std.specs.Simd.Lanes.{zip2}
use Rattle.std.proofs.lemmas.List.{take_all}
use Rattle.mlu_ring.specs.Lanes.{logical}
use Rattle.mlu_ring.specs.Tables.{pair}
use Rattle.mlu_ring.proofs.LaneProducts.{by_parts}
use Rattle.mlu_ring.proofs.Rows.{row-ends, length-row_at}
use Rattle.mlu_kernel.proofs.Blocks.{block-embedded}
use Rattle.mlu_kernel.proofs.LaneDots.{no_weight, one_more_weight}
use Rattle.mlu_kernel.proofs.one_row.row_dot_in_lanes.Goals as goal

pub row_of_width-requires : goal.row_of_width-requires
row_of_width-requires g c = row-ends _ _ _ _ _ c.loop-i-test.true c.requires c.WIDTH.ensures

pub load-block-requires : goal.load-block-requires
load-block-requires g c = ap length c.row_of_width.ensures ∙ length-row_at _ _ _ (row-ends _ _ _ _ _ c.loop-i-test.true c.requires c.WIDTH.ensures) ∙ c.WIDTH.ensures

pub loop-i-init : goal.loop-i-init
loop-i-init g c =
    let ext = g.EF.ExtensionPacking.PackedFieldExtension in
    let met = g.met.EF.ExtensionPacking.PackedFieldExtension in
    no_weight g.EF.ExtensionPacking.Additive.ring g.EF.Additive.ring g.met.EF.Additive.laws ext.ext_lanes ext.of_ext_lanes g.F.Packing.PackedValue.WIDTH met.lanes_are met.lane_by_lane
    c.ZERO-sum.result (map g.EF.Algebra.embed c.args.row.now) (c.ZERO-sum.ensures ∙ g.met.EF.ExtensionPacking.Additive.zero_is)

pub loop-i-preserved : goal.loop-i-preserved
loop-i-preserved g c =
    let ext = g.EF.ExtensionPacking.PackedFieldExtension in
    let met = g.met.EF.ExtensionPacking.PackedFieldExtension in
    let q = g.EF.ExtensionPacking.Algebra-2.embed c.load-block.result in
    let block = block-embedded g.EF.Algebra.embed c.args.row.now c.loop-i.i c.WIDTH.result g.F.Packing.PackedValue.WIDTH c.row_of_width.result.now (g.F.Packing.PackedValue.lanes c.load-block.result) (ext.ext_lanes q)
    (met.embeds_packing c.load-block.result) c.load-block.ensures c.row_of_width.ensures c.WIDTH.ensures in
    let product = by_parts met.lanes_are c.scale_by_packing.result (g.EF.ExtensionPacking.Additive.ring.product c.index-weights-i.result q)
    (c.scale_by_packing.ensures
    ∙ sym (met.lane_by_lane.product c.index-weights-i.result q ∙ ap (zip2 g.EF.Additive.ring.product (ext.ext_lanes c.index-weights-i.result)) (met.embeds_packing c.load-block.result))) in
    one_more_weight g.EF.ExtensionPacking.Additive.ring g.EF.Additive.ring g.met.EF.Additive.laws ext.ext_lanes ext.of_ext_lanes g.F.Packing.PackedValue.WIDTH met.lanes_are met.lane_by_lane
    c.loop-i.sum c.index-weights-i.result q c.scale_by_packing.result c.add-sum.result c.args.weights.now (map g.EF.Algebra.embed c.args.row.now) c.loop-i.i
    c.loop-i-test.true c.index-weights-i.is block product
    (g.met.EF.ExtensionPacking.Additive.adds _ _ _ c.add-sum.ensures) c.loop-i.invariant

pub returns : goal.returns
returns g c =
    let whole : length c.args.weights.now ≤ c.loop-i.i = c.loop-i-test.false in
    let lanes = g.EF.ExtensionPacking.PackedFieldExtension.ext_lanes in
    c.loop-i.invariant ∙ ap (λ ps. pair g.EF.Additive.ring (logical lanes ps) (map g.EF.Algebra.embed c.args.row.now)) (take_all c.loop-i.i c.args.weights.now whole)
