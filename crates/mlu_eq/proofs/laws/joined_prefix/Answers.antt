use Rattle.mlu_ring.proofs.Joined.{value-joined_prefix}
use Rattle.mlu_eq.proofs.laws.joined_prefix.Goals as goal

pub returns : goal.returns
returns g c = value-joined_prefix g.R.Additive.ring g.met.R.Additive.laws c.args.entries.now c.args.first.now c.args.rest.now c.requires
