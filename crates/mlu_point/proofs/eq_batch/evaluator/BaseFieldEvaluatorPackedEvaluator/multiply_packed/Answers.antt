use Rattle.std.proofs.Common.{sym, ◌∙◌}
use Rattle.mlu_ring.proofs.LaneProducts.{by_parts, lanes-product_splat}
use Rattle.mlu_point.proofs.eq_batch.evaluator.BaseFieldEvaluatorPackedEvaluator.multiply_packed.Goals as goal

pub returns : goal.returns
returns g c =
    let packed = g.EF.ExtensionPacking.Additive.ring in
    let ext = g.EF.ExtensionPacking.PackedFieldExtension in
    let met = g.met.EF.ExtensionPacking.PackedFieldExtension in
    let image = g.EF.Algebra.embed c.args.coordinate in
    let factor = g.EF.ExtensionPacking.Algebra-1.embed image in
    by_parts met.lanes_are c.scale_by_base.result (packed.product c.args.share factor)
    (c.scale_by_base.ensures
    ∙ sym (lanes-product_splat packed g.EF.Additive.ring g.met.EF.Additive.laws ext.ext_lanes ext.of_ext_lanes g.F.Packing.PackedValue.WIDTH met.lanes_are met.lane_by_lane c.args.share factor image (met.embeds_element image)))
