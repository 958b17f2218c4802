use Rattle.mlu_eq.proofs.Folds.{front_of_image}
use Rattle.mlu_eq.proofs.prefix.fold_prefix_at.Goals as goal

pub returns : goal.returns
returns g c =
    let ring = g.EF.Additive.ring in
    λ d. front_of_image ring g.met.EF.Additive.laws g.EF.Algebra.embed (ring.minus ring.one c.args.r) c.args.r c.args.entries.now c.args.index
    c.index-entries-index.result c.index-entries-half.result c.interpolate_base_at_fixed.result d c.requires c.index-entries-index.is c.index-entries-half.is c.interpolate_base_at_fixed.ensures
