use Rattle.std.proofs.Common.{◌≡◌, length, map, ◌∙◌}
use Rattle.std.proofs.lemmas.List.{length-map}
use Rattle.mlu_ring.specs.Lanes.{splat_of}
use Rattle.mlu_ring.proofs.Pairs.{pair-four, read-map}
use Rattle.mlu_ring.proofs.field.Field.mixed_dot4.Goals as goal

pub returns : goal.returns
returns g c =
    let packing = g.met.Self.Packing.Additive in
    let splat = splat_of g.Self.Packing.PackedValue.WIDTH g.Self.Packing.PackedValue.of_lanes in
    let scalars = c.args.c.now in
    let low = packing.adds _ _ _ c.add-low.ensures in
    let high = packing.adds _ _ _ c.add-high.ensures in
    let all = packing.adds _ _ _ c.add.ensures in
    let long : length (map splat scalars) ≡ 4 = length-map scalars splat ∙ c.requires.scalar in
    let sums = pair-four g.Self.Packing.Additive.ring packing.laws c.args.p.now (map splat scalars) _ _ _ _ _ _ _ _ c.requires.packed long
    c.index-p-0.is c.index-p-1.is c.index-p-2.is c.index-p-3.is
    (read-map splat scalars 0 _ c.index-c-0.is) (read-map splat scalars 1 _ c.index-c-1.is) (read-map splat scalars 2 _ c.index-c-2.is) (read-map splat scalars 3 _ c.index-c-3.is) in
    cc (low, high, all, sums, c.lanes_scale.ensures, c.lanes_scale-2.ensures, c.lanes_scale-3.ensures, c.lanes_scale-4.ensures)
