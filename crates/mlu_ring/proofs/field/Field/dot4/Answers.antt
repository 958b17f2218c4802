use Rattle.mlu_ring.proofs.Pairs.{pair-four}
use Rattle.mlu_ring.proofs.field.Field.dot4.Goals as goal

pub returns : goal.returns
returns g c =
    let packing = g.met.Self.Packing.Additive in
    let low = packing.adds _ _ _ c.add-low.ensures in
    let high = packing.adds _ _ _ c.add-high.ensures in
    let all = packing.adds _ _ _ c.add.ensures in
    let sums = pair-four g.Self.Packing.Additive.ring packing.laws c.args.l.now c.args.r.now _ _ _ _ _ _ _ _ c.requires.left c.requires.right
    c.index-l-0.is c.index-l-1.is c.index-l-2.is c.index-l-3.is c.index-r-0.is c.index-r-1.is c.index-r-2.is c.index-r-3.is in
    cc (low, high, all, sums, c.lanes_mul.ensures, c.lanes_mul-2.ensures, c.lanes_mul-3.ensures, c.lanes_mul-4.ensures)
