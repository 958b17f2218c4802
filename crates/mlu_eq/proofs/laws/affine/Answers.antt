use Rattle.mlu_ring.proofs.Coordinates.{value-affine_in_each}
use Rattle.mlu_eq.proofs.laws.affine.Goals as goal

pub returns : goal.returns
returns g c = λ n. value-affine_in_each g.R.Additive.ring g.met.R.Additive.laws n c.args.entries.now
