-- Below k the elements of the lanes are written.
use Rattle.mlu_lanes.specs.BabyBear.{baby_bear_ring}
use Rattle.mlu_ext.specs.Product.{diagonal}
use Rattle.mlu_ext.specs.ProductMaps.{product_elements}
use Rattle.mlu_ring.proofs.Filled.{IsFilled}
use Rattle.mlu_ext.proofs.product.packed.ProductAlgebraLanesBabyBearPackedFieldExtensionBabyBearProductAlgebraBabyBear.store_ext.Given as goal

abbrev pub invariant-loop-k : goal.invariant-loop-k
invariant-loop-k g l =
    let zero = (baby_bear_ring g.row.W).zero in
    IsFilled (diagonal g.row.D zero) l.out (product_elements g.row.W g.row.D zero l.self) l.k
