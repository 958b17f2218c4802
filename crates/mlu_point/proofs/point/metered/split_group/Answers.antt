use Rattle.std.proofs.Common.{ap, ◌∙◌}
use Rattle.mlu_point.proofs.Groups.{shares-of_lanes, rest-of_lanes}
use Rattle.mlu_point.proofs.point.metered.split_group.Goals as goal

pub returns-clause-upper : goal.returns-clause-upper
returns-clause-upper g c =
    let packing = g.F.Packing.PackedValue in
    c.store.ensures
    ∙ ap packing.lanes c.times_lanes-shares.ensures.value
    ∙ shares-of_lanes packing.WIDTH packing.lanes g.F.Packing.Additive.ring g.F.Additive.ring g.met.F.Lanewise.lane_by_lane c.load-weights.result c.splat.result c.args.low.now c.args.coordinate
    c.requires.low c.load-weights.ensures c.splat.ensures

pub returns-clause-lower : goal.returns-clause-lower
returns-clause-lower g c =
    let packing = g.F.Packing.PackedValue in
    let ring = g.F.Additive.ring in
    let by_lane = g.met.F.Lanewise.lane_by_lane in
    let weights = c.load-weights.result in
    let shares = c.times_lanes-shares.result in
    c.store-2.ensures
    ∙ ap packing.lanes (g.met.F.Packing.Additive.subtracts weights shares c.sub.result c.sub.ensures)
    ∙ rest-of_lanes packing.WIDTH packing.lanes g.F.Packing.Additive.ring ring by_lane weights shares c.args.low.now (λ w. ring.product w c.args.coordinate) c.load-weights.ensures
    (ap packing.lanes c.times_lanes-shares.ensures.value
    ∙ shares-of_lanes packing.WIDTH packing.lanes g.F.Packing.Additive.ring ring by_lane weights c.splat.result c.args.low.now c.args.coordinate
    c.requires.low c.load-weights.ensures c.splat.ensures)
