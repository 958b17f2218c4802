use Rattle.std.proofs.Common.{◌∙◌, map, sym, ap, arith}
use Rattle.std.proofs.lemmas.List.{length-map}
use Rattle.mlu_ring.proofs.Pairs.{read-map}
use Rattle.mlu_ring.proofs.Zips.{zip_step, zip_whole}
use Rattle.mlu_eq.proofs.split.accumulate.add_multiple.Goals as goal

pub loop-i-preserved : goal.loop-i-preserved
loop-i-preserved g c =
    let ring = g.R.Additive.ring in
    let added = map (ring.product c.args.factor) c.args.weights.now in
    let multiplied = c.times_fixed.ensures ∙ g.met.R.Additive.laws.product_comm c.index-weights-i.result c.args.factor in
    zip_step ring.sum c.args.out.now added c.loop-i.out c.loop-i.i c.index-out-i.result (ring.product c.args.factor c.index-weights-i.result) c.add.result
    c.loop-i-test.true (c.requires ∙ sym (length-map c.args.weights.now (ring.product c.args.factor))) c.loop-i.invariant c.index-out-i.is
    (read-map (ring.product c.args.factor) c.args.weights.now c.loop-i.i c.index-weights-i.result c.index-weights-i.is)
    (g.met.R.Additive.adds c.index-out-i.result c.times_fixed.result c.add.result c.add.ensures ∙ ap (ring.sum c.index-out-i.result) multiplied)

pub returns : goal.returns
returns g c =
    let factor = g.R.Additive.ring.product c.args.factor in
    c.loop-i.invariant
    ∙ zip_whole g.R.Additive.ring.sum c.args.out.now (map factor c.args.weights.now) c.loop-i.i (omega arith) (c.requires ∙ sym (length-map c.args.weights.now factor))
