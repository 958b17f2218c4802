use Rattle.std.proofs.Common.{◌∙◌, map, ap}
use Rattle.std.specs.Simd.Lanes.{zip2}
use Rattle.mlu_ring.specs.Successor.{moved_up}
use Rattle.mlu_eq.proofs.Moved.{zip_moved, zip_sums}
use Rattle.mlu_eq.proofs.half.EqMaybePacked.accumulate_next_chunk_into.Goals as goal

pub returns : goal.returns
returns g c =
    let ring = g.EF.Additive.ring in
    let w = c.args.self.now.weights in
    let factor = ring.product c.args.shifted_weight in
    let row = c.add_weights.new.row in
    let moved = moved_up c.args.boundary (map factor w) in
    let added = g.met.EF.Additive.adds c.index-out-0.result c.args.boundary c.add.result c.add.ensures in
    zip_moved ring.sum factor row c.add_leading.new.row w c.num_scalar_evals-places.result c.args.boundary c.index-out-0.result c.add.result
    c.num_scalar_evals-places.ensures.some c.num_scalar_evals-places.ensures.value (c.add_weights.auto.row ∙ c.requires) c.index-out-0.is added c.add_leading.ensures
    ∙ ap (λ l. zip2 ring.sum l moved) c.add_weights.ensures
    ∙ zip_sums ring g.met.EF.Additive.laws c.args.out.now (map (ring.product c.args.eq_weight) w) moved
