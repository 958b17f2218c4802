use Rattle.std.proofs.Common.{◌≡◌, ◌<◌, ◌≤◌, ◌*◌, ◌/◌, ◌++◌, ◌∙◌, map, length, take, ap, arith, rules}
use Rattle.std.specs.Simd.Lanes.{zip2}
use Rattle.mlu_ring.specs.Lanes.{logical}
use Rattle.mlu_eq.proofs.Moved.{group_within, zip_leading}
use Rattle.mlu_eq.proofs.half.next.add_leading_lanes.Goals as goal

pub returns : goal.returns
returns g c =
    let sum = g.EF.Additive.ring.sum in
    let lanes = g.EF.ExtensionPacking.PackedFieldExtension.ext_lanes in
    let n = g.F.Packing.PackedValue.WIDTH in
    let long = g.met.EF.ExtensionPacking.PackedFieldExtension.lanes_are.length-parts in
    let factor = g.EF.Additive.ring.product c.args.factor in
    let row = c.args.row.now in
    let weights = c.args.weights.now in
    let q = length row / c.WIDTH.result in
    let m = q * c.WIDTH-2.result in
    let is : m ≡ q * n = ap (λ k. q * k) c.WIDTH-2.ensures in
    let fits : m ≤ length row = search rules in
    let short : length c.split_at_mut-whole.result.1.now ≤ n = search rules in
    let within : q < length weights = group_within q (length weights) n (length row) (omega (arith, is, fits)) (omega (arith, c.requires)) in
    ap (λ vs. vs ++ c.add_first_lanes.new.row) c.add_lanes.ensures
    ∙ ap (λ vs. zip2 sum c.split_at_mut-whole.result.0.now (map factor (logical lanes (take q weights))) ++ vs) c.add_first_lanes.ensures
    ∙ zip_leading lanes n long sum factor row c.split_at_mut-whole.result.0.now c.split_at_mut-whole.result.1.now weights q m c.index-weights-groups.result within c.index-weights-groups.is is fits
    c.split_at_mut-whole.ensures.front c.split_at_mut-whole.ensures.back short
