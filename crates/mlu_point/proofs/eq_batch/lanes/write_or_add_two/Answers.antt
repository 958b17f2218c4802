use Rattle.std.proofs.Common.{◌≡◌, ◌/◌, ◌++◌, ◌∙◌, length, arith}
use Rattle.mlu_point.proofs.Pairs.{halves-left}
use Rattle.mlu_point.proofs.eq_batch.lanes.write_or_add_two.Goals as goal

pub returns : goal.returns
returns g c =
    let lanes = g.EF.ExtensionPacking.PackedFieldExtension.ext_lanes in
    let long = g.met.EF.ExtensionPacking.PackedFieldExtension.lanes_are.length-parts in
    let half : g.F.Packing.PackedValue.WIDTH ≡ length c.args.out.now / 2 = omega (arith, c.requires) in
    (λ i. c.write_or_add_group.ensures i ++ c.write_or_add_group-2.ensures i)
    ∙ halves-left g.EF.Additive.ring _ c.args.out.now c.split_at_mut-low.result.0.now c.split_at_mut-low.result.1.now (lanes c.args.first) (lanes c.args.second)
    c.split_at_mut-low.ensures.front c.split_at_mut-low.ensures.back (long c.args.first ∙ half)
