use Rattle.std.proofs.Common.{◌++◌, ◌∙◌, ap, arith}
use Rattle.std.proofs.lemmas.List.{take_more, take_all}
use Rattle.mlu_eq.proofs.Appended.{appended-one}
use Rattle.mlu_eq.proofs.split.whole.push_lanes.Goals as goal

pub loop-k-preserved : goal.loop-k-preserved
loop-k-preserved g c =
    let lanes = g.EF.ExtensionPacking.PackedFieldExtension.ext_lanes c.args.lanes in
    let long = g.met.EF.ExtensionPacking.PackedFieldExtension.lanes_are.length-parts c.args.lanes in
    let pushed = c.push_reserved.ensures in
    appended-one c.args.table.now c.loop-k.table c.push_reserved.new.self _ _ _ _ _ c.loop-k.invariant pushed.items pushed.len pushed.capacity
    (c.ext_lane.ensures c.ext_lane.result) (take_more lanes c.loop-k.k _ (omega (arith, long)))

pub returns-clause-items : goal.returns-clause-items
returns-clause-items g c =
    let lanes = g.EF.ExtensionPacking.PackedFieldExtension.ext_lanes c.args.lanes in
    let long = g.met.EF.ExtensionPacking.PackedFieldExtension.lanes_are.length-parts c.args.lanes in
    c.loop-k.invariant.items ∙ ap (λ l. c.args.table.now.items ++ l) (take_all c.loop-k.k lanes (omega (arith, long)))
