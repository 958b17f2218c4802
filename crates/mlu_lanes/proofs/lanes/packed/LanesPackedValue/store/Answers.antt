-- The values of the lanes are written.
use Rattle.std.proofs.Common.{sym, ◌∙◌, arith}
use Rattle.std.proofs.lemmas.List.{get_or_default}
use Rattle.mlu_ring.proofs.Filled.{filled_next, filled_whole}
use Rattle.mlu_lanes.specs.LaneRing.{values_of}
use Rattle.mlu_lanes.proofs.lanes.packed.LanesPackedValue.store.Goals as goal

pub loop-k-preserved : goal.loop-k-preserved
loop-k-preserved g c =
    filled_next g.F.Additive.ZERO c.loop-k.out (values_of c.args.self.now) c.loop-k.k _ (omega (arith, c.requires)) c.loop-k.invariant
    (get_or_default (values_of c.args.self.now) c.loop-k.k c.index-self-k.result g.F.Additive.ZERO (omega (arith, c.args.self.now.full)))

pub returns : goal.returns
returns g c =
    filled_whole g.F.Additive.ZERO c.loop-k.out (values_of c.args.self.now) c.loop-k.k (omega (arith, c.requires)) (c.loop-k.auto.out ∙ c.requires ∙ sym c.args.self.now.full) c.loop-k.invariant
