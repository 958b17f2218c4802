use Rattle.std.proofs.Common.{◌∙◌, map, length, take, sym, ap, arith}
use Rattle.std.proofs.lemmas.List.{length-map, length-take-le, get_or-take}
use Rattle.mlu_ring.proofs.Pairs.{read-map}
use Rattle.mlu_ring.proofs.Zips.{zip_step, zip_whole}
use Rattle.mlu_eq.proofs.half.next.add_first_lanes.Goals as goal

pub loop-k-preserved : goal.loop-k-preserved
loop-k-preserved g c =
    let ring = g.EF.Additive.ring in
    let row = c.args.row.now in
    let lanes = g.EF.ExtensionPacking.PackedFieldExtension.ext_lanes c.args.weights in
    let wide = g.met.EF.ExtensionPacking.PackedFieldExtension.lanes_are.length-parts c.args.weights in
    let first = take (length row) lanes in
    let size = length-map first (ring.product c.args.factor) ∙ length-take-le (length row) lanes (omega (arith, wide, c.requires)) in
    let lane = c.ext_lane.ensures c.ext_lane.result ∙ sym (get_or-take (length row) lanes c.loop-k.k c.ext_lane.result c.loop-k-test.true) in
    let multiplied = g.met.EF.PrimeCharacteristicRing.multiplies c.args.factor c.ext_lane.result c.mul.result c.mul.ensures in
    zip_step ring.sum row (map (ring.product c.args.factor) first) c.loop-k.row c.loop-k.k c.index-row-k.result (ring.product c.args.factor c.ext_lane.result) c.add.result
    c.loop-k-test.true (sym size) c.loop-k.invariant c.index-row-k.is
    (read-map (ring.product c.args.factor) first c.loop-k.k c.ext_lane.result lane)
    (g.met.EF.Additive.adds c.index-row-k.result c.mul.result c.add.result c.add.ensures ∙ ap (ring.sum c.index-row-k.result) multiplied)

pub returns : goal.returns
returns g c =
    let row = c.args.row.now in
    let factor = g.EF.Additive.ring.product c.args.factor in
    let lanes = g.EF.ExtensionPacking.PackedFieldExtension.ext_lanes c.args.weights in
    let wide = g.met.EF.ExtensionPacking.PackedFieldExtension.lanes_are.length-parts c.args.weights in
    let first = take (length row) lanes in
    let size = length-map first factor ∙ length-take-le (length row) lanes (omega (arith, wide, c.requires)) in
    c.loop-k.invariant ∙ zip_whole g.EF.Additive.ring.sum row (map factor first) c.loop-k.k (omega arith) (sym size)
