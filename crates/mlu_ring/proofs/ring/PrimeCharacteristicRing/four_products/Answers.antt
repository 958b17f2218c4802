use Rattle.mlu_ring.proofs.Pairs.{pair-of_four}
use Rattle.mlu_ring.proofs.ring.PrimeCharacteristicRing.four_products.Goals as goal

pub returns : goal.returns
returns g c =
    let additive = g.met.Self.Additive in
    let ring = g.met.Self.PrimeCharacteristicRing in
    let l = c.args.l.now in
    let r = c.args.r.now in
    let sums = pair-of_four g.Self.Additive.ring additive.laws l.0 l.1 l.2 l.3 r.0 r.1 r.2 r.3 in
    cc (
      sums,
      additive.adds _ _ _ c.add.ensures,
      additive.adds _ _ _ c.add-2.ensures,
      additive.adds _ _ _ c.add-3.ensures,
      ring.multiplies _ _ _ c.mul.ensures,
      ring.multiplies _ _ _ c.mul-2.ensures,
      ring.multiplies _ _ _ c.mul-3.ensures,
      ring.multiplies _ _ _ c.mul-4.ensures,
    )
