use Rattle.std.proofs.Common.{map, ap, ◌∙◌}
use Rattle.std.specs.Simd.Lanes.{zip2}
use Rattle.mlu_eq.proofs.Lines.{lines_of_images}
use Rattle.mlu_eq.proofs.line.interpolate_packing.Goals as goal

pub returns : goal.returns
returns g c =
    let ring = g.EF.Additive.ring in
    let embed = g.EF.Algebra.embed in
    let packing = g.F.Packing.PackedValue in
    let packed = g.EF.ExtensionPacking in
    let met = g.met.EF.ExtensionPacking.PackedFieldExtension in
    let low = packing.lanes c.args.low in
    let subtracted = g.met.F.Packing.Additive.subtracts c.args.high c.args.low c.sub.result c.sub.ensures in
    ap packed.PackedFieldExtension.ext_lanes c.plus.ensures
    ∙ met.lane_by_lane.sum c.scale_packing.result (packed.Algebra-2.embed c.args.low)
    ∙ (λ i. zip2 ring.sum (c.scale_packing.ensures i) (met.embeds_packing c.args.low i))
    ∙ ap (λ l. zip2 ring.sum (map (ring.product c.args.r) (map embed l)) (map embed low)) (ap packing.lanes subtracted ∙ g.met.F.Lanewise.lane_by_lane.minus c.args.high c.args.low)
    ∙ lines_of_images g.F.Additive.ring g.met.F.Additive.laws ring g.met.EF.Additive.laws embed g.met.EF.Algebra.keeps c.args.r low (packing.lanes c.args.high)
