use Rattle.mlu_ring.proofs.Groups.{pair-one_more}
use Rattle.mlu_lanes.specs.BabyBear.{baby_bear_ring, baby_bear_laws}
use Rattle.mlu_lanes.proofs.baby_bear.dot.dot_by_groups.Goals as goal

pub loop-i-preserved : goal.loop-i-preserved
loop-i-preserved g c =
    pair-one_more (baby_bear_ring g.row.W) (baby_bear_laws g.row.W) c.args.l.now c.args.r.now c.loop-i.i c.index-l-i.result c.index-r-i.result
    c.loop-i.sum c.mul.result c.add-sum.result c.requires c.loop-i-test.true c.index-l-i.is c.index-r-i.is c.loop-i.invariant
    c.mul.ensures c.add-sum.ensures
