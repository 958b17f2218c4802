-- One lane more is written.
use Rattle.mlu_lanes.proofs.Entrywise.{written_next}
use Rattle.mlu_lanes.proofs.lanes.ring.LanesMul.mul.Goals as goal

pub loop-k-preserved : goal.loop-k-preserved
loop-k-preserved g c =
    let done = c.loop-k.invariant in
    let next = written_next g.F.Mul.mul_gives c.args.self c.args.other _ _ _ _ _ c.loop-k-test.true done.long c.mul.ensures done.written in
    record { long = next.0; written = next.1 }
