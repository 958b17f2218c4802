use Rattle.std.proofs.Common.{◌∙◌, arith}
use Rattle.mlu_ring.proofs.Zips.{zip_step, zip_whole}
use Rattle.mlu_ring.proofs.place_by_place.multiply_each.Goals as goal

pub loop-i-preserved : goal.loop-i-preserved
loop-i-preserved g c =
    zip_step g.R.Additive.ring.product c.args.out.now c.args.b.now c.loop-i.out c.loop-i.i c.index-out-i.result c.index-b-i.result c.mul.result
    c.loop-i-test.true c.requires c.loop-i.invariant c.index-out-i.is c.index-b-i.is (g.met.R.PrimeCharacteristicRing.multiplies _ _ c.mul.result c.mul.ensures)

pub returns : goal.returns
returns g c = c.loop-i.invariant ∙ zip_whole g.R.Additive.ring.product c.args.out.now c.args.b.now c.loop-i.i (omega arith) c.requires
