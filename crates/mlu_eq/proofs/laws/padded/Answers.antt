use Rattle.mlu_ring.proofs.Padded.{value-with_zeros}
use Rattle.mlu_eq.proofs.laws.padded.Goals as goal

pub returns : goal.returns
returns g c = λ zeros. value-with_zeros g.R.Additive.ring g.met.R.Additive.laws c.args.entries.now c.args.first.now c.args.rest.now zeros c.requires
