-- Eight times, twice and once are eleven times.
use Rattle.mlu_ext.proofs.Eleven.{eleven-product}
use Rattle.mlu_ext.proofs.quartic.ring.times_eleven.Goals as goal

pub returns : goal.returns
returns g c =
    let adds = g.met.R.Additive.adds in
    cc (c.double-two.ensures, c.double.ensures, c.double-2.ensures, adds _ _ c.add.result c.add.ensures, adds _ _ c.add-2.result c.add-2.ensures, eleven-product g.R.Additive.ring g.met.R.Additive.laws c.args.x)
