use Rattle.std.proofs.Common.{arith}
use Rattle.mlu_eq.proofs.split.shifted.subtract_borders.Goals as goal

pub returns : goal.returns
returns g c y h = c.loop-y.invariant.done y (omega arith)
