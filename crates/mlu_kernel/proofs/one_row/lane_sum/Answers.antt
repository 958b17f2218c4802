use Rattle.std.proofs.Common.{◌<◌, ◌≤◌, ◌∙◌, take, ap, sym, length, arith}
use Rattle.std.proofs.lemmas.List.{take_all}
use Rattle.mlu_ring.specs.Sums.{sum_of}
use Rattle.mlu_ring.proofs.Totals.{sum_of-take_more}
use Rattle.mlu_kernel.proofs.one_row.lane_sum.Goals as goal

pub loop-k-init : goal.loop-k-init
loop-k-init g c = c.ZERO-sum.ensures ∙ g.met.EF.Additive.zero_is

pub loop-k-preserved : goal.loop-k-preserved
loop-k-preserved g c =
    let ring = g.EF.Additive.ring in
    let lanes = g.EF.ExtensionPacking.PackedFieldExtension.ext_lanes c.args.packed in
    let long = g.met.EF.ExtensionPacking.PackedFieldExtension.lanes_are.length-parts c.args.packed in
    let k = c.loop-k.k in
    let within : c.loop-k.k < length (g.EF.ExtensionPacking.PackedFieldExtension.ext_lanes c.args.packed) = omega (arith, long) in
    g.met.EF.Additive.adds c.loop-k.sum c.ext_lane.result c.add-sum.result c.add-sum.ensures
    ∙ ap (λ t. ring.sum t c.ext_lane.result) c.loop-k.invariant
    ∙ ap (λ t. ring.sum (sum_of ring (take k lanes)) t) (c.ext_lane.ensures ring.zero)
    ∙ sym (sum_of-take_more ring g.met.EF.Additive.laws lanes k ring.zero within)

pub returns : goal.returns
returns g c =
    let lanes = g.EF.ExtensionPacking.PackedFieldExtension.ext_lanes c.args.packed in
    let long = g.met.EF.ExtensionPacking.PackedFieldExtension.lanes_are.length-parts c.args.packed in
    let whole : length (g.EF.ExtensionPacking.PackedFieldExtension.ext_lanes c.args.packed) ≤ c.loop-k.k = omega (arith, long) in
    c.loop-k.invariant ∙ ap (sum_of g.EF.Additive.ring) (take_all c.loop-k.k lanes whole)
