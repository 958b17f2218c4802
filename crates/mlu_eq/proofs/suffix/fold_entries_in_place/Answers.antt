use Rattle.std.proofs.Common.{◌/◌, length, refl, arith}
use Rattle.mlu_eq.proofs.Folds.{back_written}
use Rattle.mlu_eq.proofs.suffix.fold_entries_in_place.Goals as goal

pub returns : goal.returns
returns g c =
    let ring = g.F.Additive.ring in
    let r = g.F.Algebra.embed c.args.r in
    back_written ring g.met.F.Additive.laws (ring.minus ring.one r) r c.args.entries.now c.loop-i.entries (length c.args.entries.now / 2) refl
    c.loop-i.invariant.size (λ k d h. c.loop-i.invariant.done k d (omega arith))
