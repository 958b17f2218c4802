-- The lanes hold the products of the groups before g.
use Rattle.std.proofs.Common.{◌*◌}
use Rattle.mlu_lanes.specs.Packed.{product_at}
use Rattle.mlu_lanes.proofs.Dots.{AreLanes}
use Rattle.mlu_lanes.proofs.baby_bear.dot.dot_of_groups.Given as goal

abbrev pub invariant-loop-g : goal.invariant-loop-g
invariant-loop-g g l = AreLanes (product_at l.l l.r) (16 * l.g) l.g l.lows l.highs
