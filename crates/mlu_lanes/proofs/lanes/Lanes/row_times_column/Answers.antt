-- Each lane is a sum of four products with the same factors.
use Rattle.std.proofs.Common.{◌<◌, [], ◌∷◌, sym, ◌∙◌, arith}
use Rattle.std.proofs.lemmas.List.{ext_get_or, get_or-replicate}
use Rattle.std.proofs.lemmas.Simd.{length-replicate}
use Rattle.mlu_ring.specs.Tables.{pair}
use Rattle.mlu_lanes.specs.LaneRing.{lane_ring, splat, same_values}
use Rattle.mlu_lanes.proofs.OneLane.{lane_of_four_products}
use Rattle.mlu_lanes.proofs.lanes.Lanes.row_times_column.Goals as goal

pub returns : goal.returns
returns g c =
    let w = g.row.W in
    let ring = g.F.Additive.ring in
    let l = c.args.row.now in
    let r = c.args.column.now in
    let sums = pair (lane_ring w ring) (l.0 ∷ l.1 ∷ l.2 ∷ l.3 ∷ []) (splat w r.0 ∷ splat w r.1 ∷ splat w r.2 ∷ splat w r.3 ∷ []) in
    let filled = c.rows_times_column.ensures in
    let places = length-replicate w c.ZERO-values.result in
    same_values w _ sums
    (ext_get_or ring.zero _ sums.values (filled.long ∙ places ∙ sym sums.full) (λ k below.
    let within : k < w = omega (arith, filled.long, places, below) in
    let lane = lane_of_four_products w ring k within g.met.F.Additive.laws l.0 l.1 l.2 l.3 (splat w r.0) (splat w r.1) (splat w r.2) (splat w r.3) in
    let first = get_or-replicate w k r.0 ring.zero within in
    let second = get_or-replicate w k r.1 ring.zero within in
    let third = get_or-replicate w k r.2 ring.zero within in
    let fourth = get_or-replicate w k r.3 ring.zero within in
    let each = filled.each k (rw places within) in
    cc (lane, each, first, second, third, fourth)))
