-- The elements of the lanes below k are written.
use Rattle.std.proofs.Common.{arith}
use Rattle.mlu_ring.proofs.Filled.{filled_next, filled_whole}
use Rattle.mlu_lanes.specs.BabyBear.{baby_bear_ring}
use Rattle.mlu_ext.specs.Product.{diagonal}
use Rattle.mlu_ext.specs.ProductMaps.{product_elements, product_elements_are_lists}
use Rattle.mlu_ext.proofs.product.packed.ProductAlgebraLanesBabyBearPackedFieldExtensionBabyBearProductAlgebraBabyBear.store_ext.Goals as goal

pub loop-k-preserved : goal.loop-k-preserved
loop-k-preserved g c =
    let zero = (baby_bear_ring g.row.W).zero in
    let e = diagonal g.row.D zero in
    let elements = product_elements g.row.W g.row.D zero c.args.self.now in
    filled_next e c.loop-k.out elements c.loop-k.k c.ext_lane.result (omega (arith, c.requires)) c.loop-k.invariant (c.ext_lane.ensures e)

pub returns : goal.returns
returns g c =
    let zero = (baby_bear_ring g.row.W).zero in
    let elements = product_elements g.row.W g.row.D zero c.args.self.now in
    let long = (product_elements_are_lists g.row.W g.row.D zero).length-parts c.args.self.now in
    let whole = filled_whole (diagonal g.row.D zero) c.loop-k.out elements c.loop-k.k in
    whole (omega (arith, c.requires)) (omega (arith, c.requires, long)) c.loop-k.invariant
