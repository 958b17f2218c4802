use Rattle.std.proofs.Common.{◌∙◌, ap}
use Rattle.std.proofs.lemmas.List.{map_more}
use Rattle.mlu_eq.proofs.Appended.{appended-one}
use Rattle.mlu_eq.proofs.split.whole.push_row.Goals as goal

pub loop-weight-preserved : goal.loop-weight-preserved
loop-weight-preserved g c =
    let multiple = g.R.Additive.ring.product c.args.factor in
    let pushed = c.push_reserved.ensures in
    appended-one c.args.table.now c.loop-weight.table c.push_reserved.new.self _ _ _ _ _ c.loop-weight.invariant pushed.items pushed.len pushed.capacity
    (c.times_fixed.ensures ∙ g.met.R.Additive.laws.product_comm c.weight-item.result c.args.factor ∙ ap multiple c.weight-item.is)
    (map_more multiple c.args.weights.now c.loop-weight.weight-index _ c.loop-weight-test.true)
