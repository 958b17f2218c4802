-- One lane more is written.
use Rattle.mlu_lanes.proofs.Entrywise.{written_next}
use Rattle.mlu_lanes.proofs.lanes.ring.LanesNeg.neg.Goals as goal

pub loop-k-preserved : goal.loop-k-preserved
loop-k-preserved g c =
    let done = c.loop-k.invariant in
    let next = written_next (λ x y z. g.F.Neg.neg_gives x z) c.args.self c.args.self _ _ _ c.index-self-k.result _ c.loop-k-test.true done.long c.neg.ensures done.written in
    record { long = next.0; written = next.1 }
