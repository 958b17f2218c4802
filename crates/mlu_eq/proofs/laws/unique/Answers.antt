use Rattle.mlu_ring.proofs.Unique.{value-unique}
use Rattle.mlu_eq.proofs.laws.unique.Goals as goal

pub returns : goal.returns
returns g c = λ at p h.
    value-unique g.R.Additive.ring g.met.R.Additive.laws (g.A.AffineInEach.coordinates c.args.function.now) (g.A.AffineInEach.value_at c.args.function.now) c.args.entries.now p
    (g.met.A.AffineInEach.affine c.args.function.now) at h
