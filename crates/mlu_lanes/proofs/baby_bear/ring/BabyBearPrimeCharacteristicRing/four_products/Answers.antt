-- One reduction gives the sum of four products.
use Rattle.mlu_lanes.proofs.ResidueSums.{reduced_once}
use Rattle.mlu_lanes.proofs.baby_bear.ring.BabyBearPrimeCharacteristicRing.four_products.Goals as goal

pub returns : goal.returns
returns g c =
    let l = c.args.l.now in
    let r = c.args.r.now in
    reduced_once l.0 l.1 l.2 l.3 r.0 r.1 r.2 r.3 _
    (cc (c.reduce_word.ensures, c.unreduced.ensures.value, c.unreduced-2.ensures.value, c.unreduced-3.ensures.value, c.unreduced-4.ensures.value))
