use Rattle.std.proofs.Common.{◌/◌, length, take, refl, ap}
use Rattle.mlu_eq.specs.Combine.{interpolated}
use Rattle.mlu_eq.proofs.Folds.{front_of_halves}
use Rattle.mlu_eq.proofs.prefix.fold_prefix_in_place.Goals as goal

pub returns : goal.returns
returns g c =
    let ring = g.F.Additive.ring in
    let r = g.F.Algebra.embed c.args.r in
    let half = length c.args.entries.now / 2 in
    let low = c.split_at_mut-low.result.0.now in
    let high = c.split_at_mut-low.result.1.now in
    front_of_halves ring g.met.F.Additive.laws (ring.minus ring.one r) r (interpolated ring r) (λ a b. refl) c.args.entries.now low (take half high) _
    c.interpolate_each.new.low half refl c.split_at_mut-low.ensures.front (ap (take half) c.split_at_mut-low.ensures.back) c.interpolate_each.ensures
