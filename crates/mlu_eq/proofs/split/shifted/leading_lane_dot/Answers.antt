use Rattle.std.proofs.Common.{◌≡◌, ◌∙◌, map, length, take, ap, sym, arith}
use Rattle.std.proofs.lemmas.List.{length-map}
use Rattle.mlu_ring.specs.Tables.{pair}
use Rattle.mlu_ring.proofs.Pairs.{read-map}
use Rattle.mlu_ring.proofs.Totals.{pair-nil}
use Rattle.mlu_ring.proofs.Groups.{pair-take_more}
use Rattle.mlu_eq.proofs.split.shifted.leading_lane_dot.Goals as goal

pub loop-k-init : goal.loop-k-init
loop-k-init g c = c.ZERO-sum.ensures ∙ g.met.EF.Additive.zero_is ∙ sym (pair-nil g.EF.Additive.ring g.met.EF.Additive.laws (map g.EF.Algebra.embed c.args.row.now))

pub loop-k-preserved : goal.loop-k-preserved
loop-k-preserved g c =
    let ring = g.EF.Additive.ring in
    let embed = g.EF.Algebra.embed in
    let lanes = g.EF.ExtensionPacking.PackedFieldExtension.ext_lanes c.args.weights in
    let e = map embed c.args.row.now in
    let long = length-map c.args.row.now embed in
    let wide = g.met.EF.ExtensionPacking.PackedFieldExtension.lanes_are.length-parts c.args.weights in
    g.met.EF.Additive.adds c.loop-k.sum c.scale.result c.add-sum.result c.add-sum.ensures
    ∙ ap (ring.sum c.loop-k.sum) c.scale.ensures
    ∙ ap (λ t. ring.sum t (ring.product c.ext_lane.result (embed c.index-row-k.result))) c.loop-k.invariant
    ∙ sym (pair-take_more ring g.met.EF.Additive.laws lanes e c.loop-k.k c.ext_lane.result (embed c.index-row-k.result)
    (omega (arith, wide, c.requires, c.loop-k-test.true)) (omega (arith, long, c.loop-k-test.true)) (c.ext_lane.ensures c.ext_lane.result) (read-map embed c.args.row.now c.loop-k.k c.index-row-k.result c.index-row-k.is))

pub returns : goal.returns
returns g c =
    let lanes = g.EF.ExtensionPacking.PackedFieldExtension.ext_lanes c.args.weights in
    let end : c.loop-k.k ≡ length c.args.row.now = omega arith in
    c.loop-k.invariant ∙ ap (λ k. pair g.EF.Additive.ring (take k lanes) (map g.EF.Algebra.embed c.args.row.now)) end
