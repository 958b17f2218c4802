use Rattle.std.proofs.lemmas.List.{take_more}
use Rattle.mlu_eq.proofs.Appended.{appended-one}
use Rattle.mlu_eq.proofs.split.whole.push_all.Goals as goal

pub loop-element-preserved : goal.loop-element-preserved
loop-element-preserved g c =
    let pushed = c.push_reserved.ensures in
    appended-one c.args.table.now c.loop-element.table c.push_reserved.new.self _ _ _ _ _ c.loop-element.invariant pushed.items pushed.len pushed.capacity
    c.element-item.is (take_more c.args.elements.now c.loop-element.element-index _ c.loop-element-test.true)
