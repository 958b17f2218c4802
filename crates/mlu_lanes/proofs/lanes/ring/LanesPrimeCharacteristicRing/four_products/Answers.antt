-- Each lane is a sum of four products.
use Rattle.std.proofs.Common.{◌<◌, [], ◌∷◌, sym, ◌∙◌, arith}
use Rattle.std.proofs.lemmas.List.{ext_get_or}
use Rattle.std.proofs.lemmas.Simd.{length-replicate}
use Rattle.mlu_ring.specs.Tables.{pair}
use Rattle.mlu_lanes.specs.LaneRing.{lane_ring, same_values}
use Rattle.mlu_lanes.proofs.OneLane.{lane_of_four_products}
use Rattle.mlu_lanes.proofs.lanes.ring.LanesPrimeCharacteristicRing.four_products.Goals as goal

pub returns : goal.returns
returns g c =
    let w = g.row.W in
    let ring = g.F.Additive.ring in
    let l = c.args.l.now in
    let r = c.args.r.now in
    let sums = pair (lane_ring w ring) (l.0 ∷ l.1 ∷ l.2 ∷ l.3 ∷ []) (r.0 ∷ r.1 ∷ r.2 ∷ r.3 ∷ []) in
    let filled = c.each_four_products.ensures in
    let places = length-replicate w c.ZERO-values.result in
    same_values w _ sums
    (ext_get_or ring.zero _ sums.values (filled.long ∙ places ∙ sym sums.full) (λ k below.
    let within : k < w = omega (arith, filled.long, places, below) in
    filled.each k (rw places within) ∙ sym (lane_of_four_products w ring k within g.met.F.Additive.laws l.0 l.1 l.2 l.3 r.0 r.1 r.2 r.3)))
