-- One reduction a lane gives the sum of four products.
use Rattle.std.proofs.Common.{map, ap}
use Rattle.mlu_ring.specs.Lanes.{splat_of}
use Rattle.mlu_lanes.specs.BabyBear.{reduced}
use Rattle.mlu_lanes.specs.LaneRing.{packed_of}
use Rattle.mlu_lanes.proofs.PackedSums.{read_four, sum_of_prepared}
use Rattle.mlu_lanes.proofs.baby_bear.field.BabyBearField.mixed_dot4.Goals as goal

pub returns : goal.returns
returns g c =
    let splat = splat_of g.row.W (packed_of g.row.W (reduced 0)) in
    let p = read_four c.args.p.now _ _ _ _ c.requires.packed c.index-p-0.is c.index-p-1.is c.index-p-2.is c.index-p-3.is in
    let scalars = read_four c.args.c.now _ _ _ _ c.requires.scalar c.index-c-0.is c.index-c-1.is c.index-c-2.is c.index-c-3.is in
    let factors = c.prepared-factors.ensures in
    let sum = sum_of_prepared
    c.index-p-0.result c.index-p-1.result c.index-p-2.result c.index-p-3.result c.prepared_reduced.result
    c.index-c-0.result c.index-c-1.result c.index-c-2.result c.index-c-3.result
    _ _ _ _ factors.first factors.second factors.third factors.fourth (λ j below.
    let low = c.wide_sums-low.ensures j below in
    let high = c.wide_sums-high.ensures j below in
    let whole = c.wide_sums.ensures j below in
    let residue = c.prepared_reduced.ensures j below in
    let first = c.scaled.ensures.value j below in
    let second = c.scaled-2.ensures.value j below in
    let third = c.scaled-3.ensures.value j below in
    let fourth = c.scaled-4.ensures.value j below in
    cc (residue, whole, low, high, first, second, third, fourth)) in
    let splats = ap (map splat) scalars in
    cc (p, splats, sum)
