use Rattle.std.proofs.Common.{◌∙◌, ap, set}
use Rattle.std.proofs.lemmas.List.Edits.{map_over_more}
use Rattle.mlu_ring.proofs.place_by_place.clear.Goals as goal

pub loop-place-preserved : goal.loop-place-preserved
loop-place-preserved g c =
    ap (λ v. set c.loop-place.out c.loop-place.place-index v) (c.ZERO.ensures ∙ g.met.T.Additive.zero_is) ∙ map_over_more (λ x. g.T.Additive.ring.zero) c.args.out.now c.loop-place.out c.loop-place.place-index c.place-item.result c.loop-place-test.true c.loop-place.invariant c.place-item.is
