use Rattle.mlu_ring.proofs.Coordinates.{value-vertex}
use Rattle.mlu_eq.proofs.laws.vertex.Goals as goal

pub returns : goal.returns
returns g c = λ n x h. value-vertex g.R.Additive.ring g.met.R.Additive.laws n c.args.entries.now x h
