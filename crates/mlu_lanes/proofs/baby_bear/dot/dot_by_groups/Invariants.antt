use Rattle.std.proofs.Common.{◌≡◌, take}
use Rattle.mlu_ring.specs.Tables.{pair}
use Rattle.mlu_lanes.specs.BabyBear.{baby_bear_ring}
use Rattle.mlu_lanes.proofs.baby_bear.dot.dot_by_groups.Given as goal

abbrev pub invariant-loop-i : goal.invariant-loop-i
invariant-loop-i g l = l.sum ≡ pair (baby_bear_ring g.row.W) (take l.i l.l) l.r
