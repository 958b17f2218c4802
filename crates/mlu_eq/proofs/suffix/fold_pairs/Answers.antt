use Rattle.std.proofs.Common.{◌∙◌, arith}
use Rattle.mlu_ring.proofs.Folds.{back_by_index}
use Rattle.mlu_eq.proofs.suffix.fold_pairs.Goals as goal

pub returns : goal.returns
returns g c =
    let ring = g.F.Additive.ring in
    let r = g.F.Algebra.embed c.args.r in
    back_by_index ring g.met.F.Additive.laws (ring.minus ring.one r) r c.args.pairs.now c.loop-i.out (c.loop-i.invariant.long ∙ omega (arith, c.requires))
    (λ k h. c.loop-i.invariant.done k (omega (arith, c.requires)))
