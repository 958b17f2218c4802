use Rattle.std.proofs.Common.{◌≡◌, ◌*◌, ◌/◌, ◌++◌, ◌∙◌, length, arith}
use Rattle.mlu_point.specs.Batches.{pair_lanes}
use Rattle.mlu_point.proofs.Pairs.{halves-left, pair_long}
use Rattle.mlu_point.proofs.eq_batch.lanes.write_or_add_four.Goals as goal

pub returns : goal.returns
returns g c =
    let lanes = pair_lanes g.EF.ExtensionPacking.PackedFieldExtension.ext_lanes in
    let long = pair_long g.F.Packing.PackedValue.WIDTH g.EF.ExtensionPacking.PackedFieldExtension.ext_lanes g.EF.ExtensionPacking.Additive.ring g.EF.Additive.ring g.met.EF.ExtensionPacking.PackedFieldExtension.lanes_are.length-parts in
    let values = c.args.values.now in
    let half : 2 * g.F.Packing.PackedValue.WIDTH ≡ length c.args.out.now / 2 = omega (arith, c.requires) in
    (λ i. c.write_or_add_two.ensures i ++ c.write_or_add_two-2.ensures i)
    ∙ halves-left g.EF.Additive.ring _ c.args.out.now c.split_at_mut-low.result.0.now c.split_at_mut-low.result.1.now (lanes (values.0, values.1)) (lanes (values.2, values.3))
    c.split_at_mut-low.ensures.front c.split_at_mut-low.ensures.back (long (values.0, values.1) ∙ half)
