use Rattle.std.proofs.Common.{◌/◌, length, take, refl, ap, arith}
use Rattle.mlu_eq.proofs.Folds.{back_of_parts}
use Rattle.mlu_eq.proofs.suffix.+fold_suffix_in_place.Goals as goal

pub returns : goal.returns
returns g t c =
    let ring = g.F.Additive.ring in
    let r = g.F.Algebra.embed c.args.r in
    let split = c.split_at_mut-low.ensures in
    back_of_parts ring g.met.F.Additive.laws (ring.minus ring.one r) r c.args.entries.now c.split_at_mut-low.result.0.now _ c.fold_suffix_in_place.new.entries c.fold_pairs.new.out _ _
    c.div_ceil-first.result (length c.args.entries.now / 2) refl (omega (arith, c.div_ceil-first.ensures)) (omega (arith, c.div_ceil-first.ensures)) split.front (ap (take _) split.back) c.fold_suffix_in_place.ensures c.fold_suffix_in_place.auto.entries c.fold_pairs.ensures
