use Rattle.std.proofs.Common.{◌≡◌, ◌+◌, ◌*◌, ◌<◌, ◌∙◌, length, map, take, ap, sym, arith}
use Rattle.std.proofs.lemmas.List.{length-map, take_all}
use Rattle.mlu_ring.specs.Tables.{pair}
use Rattle.mlu_ring.proofs.Pairs.{read-map}
use Rattle.mlu_ring.proofs.Totals.{pair-nil}
use Rattle.mlu_ring.proofs.Groups.{pair-take_more, pair-take_four_more}
use Rattle.mlu_eq.proofs.split.dot.base_dot.Goals as goal

pub loop-g-init : goal.loop-g-init
loop-g-init g c = c.ZERO-sum.ensures ∙ g.met.EF.Additive.zero_is ∙ sym (pair-nil g.EF.Additive.ring g.met.EF.Additive.laws (map g.EF.Algebra.embed c.args.entries.now))

pub loop-g-preserved : goal.loop-g-preserved
loop-g-preserved g c =
    let ring = g.EF.Additive.ring in
    let embed = g.EF.Algebra.embed in
    let w = c.args.weights.now in
    let e = map embed c.args.entries.now in
    let i = 4 * c.loop-g.g in
    let long = sym (length-map c.args.entries.now embed ∙ c.requires) in
    let next : 4 * (c.loop-g.g + 1) ≡ 4 * c.loop-g.g + 4 = omega arith in
    let within : 4 * c.loop-g.g + 3 < length w = omega (arith, c.loop-g-test.true) in
    g.met.EF.Additive.adds c.loop-g.sum c.four_scaled.result c.add-sum.result c.add-sum.ensures
    ∙ ap (λ t. ring.sum t c.four_scaled.result) c.loop-g.invariant
    ∙ ap (ring.sum (pair ring (take i w) e)) c.four_scaled.ensures
    ∙ sym (pair-take_four_more ring g.met.EF.Additive.laws w e i (4 * (c.loop-g.g + 1)) _ _ _ _ _ _ _ _ next within long
    c.index-weights-i.is c.index-weights-i-in-loop-g.is c.index-weights-i-in-loop-g-2.is c.index-weights-i-in-loop-g-3.is
    (read-map embed c.args.entries.now i _ c.index-entries-i.is) (read-map embed c.args.entries.now (i + 1) _ c.index-entries-i-in-loop-g.is)
    (read-map embed c.args.entries.now (i + 2) _ c.index-entries-i-in-loop-g-2.is) (read-map embed c.args.entries.now (i + 3) _ c.index-entries-i-in-loop-g-3.is))

pub loop-i-preserved : goal.loop-i-preserved
loop-i-preserved g c =
    let ring = g.EF.Additive.ring in
    let embed = g.EF.Algebra.embed in
    let e = map embed c.args.entries.now in
    let w = c.index-weights-i-in-loop-i.result in
    let x = c.index-entries-i-in-loop-i.result in
    let long = length-map c.args.entries.now embed in
    g.met.EF.Additive.adds c.loop-i.sum c.scale.result c.add-sum-in-loop-i.result c.add-sum-in-loop-i.ensures
    ∙ ap (ring.sum c.loop-i.sum) c.scale.ensures
    ∙ ap (λ t. ring.sum t (ring.product w (embed x))) c.loop-i.invariant
    ∙ sym (pair-take_more ring g.met.EF.Additive.laws c.args.weights.now e c.loop-i.i w (embed x)
    c.loop-i-test.true (omega (arith, long, c.requires, c.loop-i-test.true)) c.index-weights-i-in-loop-i.is (read-map embed c.args.entries.now c.loop-i.i x c.index-entries-i-in-loop-i.is))

pub returns : goal.returns
returns g c = c.loop-i.invariant ∙ ap (λ w. pair g.EF.Additive.ring w (map g.EF.Algebra.embed c.args.entries.now)) (take_all c.loop-i.i c.args.weights.now c.loop-i-test.false)
