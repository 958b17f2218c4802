use Rattle.mlu_ring.proofs.Rings.{line_by_step}
use Rattle.mlu_eq.proofs.line.interpolate.Goals as goal

pub returns : goal.returns
returns g c =
    let added = g.met.R.Additive.adds c.args.low c.mul.result c.add.result c.add.ensures in
    let multiplied = g.met.R.PrimeCharacteristicRing.multiplies c.args.r c.sub.result c.mul.result c.mul.ensures in
    let subtracted = g.met.R.Additive.subtracts c.args.high c.args.low c.sub.result c.sub.ensures in
    let step = line_by_step g.R.Additive.ring g.met.R.Additive.laws c.args.low c.args.high c.args.r in
    cc (added, multiplied, subtracted, step)
