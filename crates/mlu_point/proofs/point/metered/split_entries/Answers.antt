use Rattle.std.proofs.Common.{arith}
use Rattle.mlu_ring.proofs.Doubling.{map_by_index}
use Rattle.mlu_point.proofs.point.metered.split_entries.Goals as goal

pub returns-clause-upper : goal.returns-clause-upper
returns-clause-upper g c = map_by_index _ c.args.low.now c.loop-i.high (omega arith) (λ k d h. c.loop-i.invariant.upper k d (omega arith))

pub returns-clause-lower : goal.returns-clause-lower
returns-clause-lower g c = map_by_index _ c.args.low.now c.loop-i.low (omega arith) (λ k d h. c.loop-i.invariant.lower k d (omega arith))
