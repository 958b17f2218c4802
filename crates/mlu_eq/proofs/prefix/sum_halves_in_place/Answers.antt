use Rattle.std.proofs.Common.{◌/◌, length, take, refl, ap}
use Rattle.mlu_eq.proofs.Folds.{front_added}
use Rattle.mlu_eq.proofs.prefix.sum_halves_in_place.Goals as goal

pub returns : goal.returns
returns g c =
    let half = length c.args.entries.now / 2 in
    let low = c.split_at_mut-low.result.0.now in
    let high = c.split_at_mut-low.result.1.now in
    front_added g.F.Additive.ring g.met.F.Additive.laws c.args.entries.now low (take half high) high c.add_each.new.out half refl
    c.split_at_mut-low.ensures.front (ap (take half) c.split_at_mut-low.ensures.back) c.add_each.ensures
