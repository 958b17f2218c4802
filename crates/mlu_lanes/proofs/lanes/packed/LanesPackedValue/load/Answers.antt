-- The lanes are the values.
use Rattle.std.proofs.Common.{sym, ◌∙◌, arith, length-set}
use Rattle.std.proofs.lemmas.List.{get_or_default}
use Rattle.mlu_ring.proofs.Filled.{filled_next, filled_whole}
use Rattle.mlu_lanes.proofs.lanes.packed.LanesPackedValue.load.Goals as goal

pub loop-k-preserved : goal.loop-k-preserved
loop-k-preserved g c =
    let lanes = c.loop-k.invariant in
    let value = c.index-values-k in
    record {
      long = length-set c.loop-k.lanes c.loop-k.k value.result ∙ lanes.long;
      read = filled_next g.F.Additive.ZERO c.loop-k.lanes c.args.values.now c.loop-k.k value.result (omega (arith, lanes.long)) lanes.read
          (value.is ∙ get_or_default c.args.values.now c.loop-k.k value.result g.F.Additive.ZERO (omega (arith, c.requires)));
    }

pub returns : goal.returns
returns g c =
    filled_whole g.F.Additive.ZERO c.loop-k.lanes c.args.values.now c.loop-k.k (omega (arith, c.requires)) (c.loop-k.invariant.long ∙ sym c.requires) c.loop-k.invariant.read
