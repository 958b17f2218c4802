-- Below c the entries are those of lane k.
use Rattle.std.proofs.Common.{◌≡◌, length}
use Rattle.mlu_ring.proofs.Filled.{IsFilled}
use Rattle.mlu_lanes.specs.BabyBear.{baby_bear_ring}
use Rattle.mlu_ext.specs.Product.{entries_of}
use Rattle.mlu_ext.specs.ProductMaps.{product_lane}
use Rattle.mlu_ext.proofs.product.packed.ProductAlgebraLanesBabyBearPackedFieldExtensionBabyBearProductAlgebraBabyBear.ext_lane.Given as goal

abbrev pub invariant-loop-c : goal.invariant-loop-c
invariant-loop-c g l =
    let zero = (baby_bear_ring g.row.W).zero in
    record { long : length l.entries ≡ g.row.D; filled : IsFilled zero l.entries (entries_of (product_lane g.row.W g.row.D zero l.self l.k)) l.c }
