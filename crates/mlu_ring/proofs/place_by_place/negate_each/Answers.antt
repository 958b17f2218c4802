use Rattle.std.proofs.Common.{◌∙◌, ap, sym, set}
use Rattle.std.proofs.lemmas.List.Edits.{map_over_more}
use Rattle.mlu_ring.proofs.place_by_place.negate_each.Goals as goal

pub loop-x-preserved : goal.loop-x-preserved
loop-x-preserved g c =
    ap (λ v. set c.loop-x.out c.loop-x.x-index v) (g.met.R.Additive.negates _ c.neg.result c.neg.ensures ∙ ap g.R.Additive.ring.negation (sym c.x-item.is)) ∙ map_over_more g.R.Additive.ring.negation c.args.out.now c.loop-x.out c.loop-x.x-index c.x-item.result c.loop-x-test.true c.loop-x.invariant c.x-item.is
