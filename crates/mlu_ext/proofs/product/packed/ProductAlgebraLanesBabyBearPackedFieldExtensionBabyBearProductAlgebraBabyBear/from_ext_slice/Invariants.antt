-- Below c the entries are the columns of the elements.
use Rattle.std.proofs.Common.{◌≡◌, ◌<◌, ℕ, length, get_or}
use Rattle.mlu_lanes.specs.LaneRing.{values_of, splat}
use Rattle.mlu_lanes.specs.BabyBear.{baby_bear_ring}
use Rattle.mlu_ext.specs.Product.{entries_of}
use Rattle.mlu_ring.specs.Columns.{column_of}
use Rattle.mlu_ext.proofs.product.packed.ProductAlgebraLanesBabyBearPackedFieldExtensionBabyBearProductAlgebraBabyBear.from_ext_slice.Given as goal

abbrev pub invariant-loop-c : goal.invariant-loop-c
invariant-loop-c g l =
    let zero = (baby_bear_ring g.row.W).zero in
    record { long : length l.packed ≡ g.row.D; columns : (j : ℕ) → j < l.c → values_of (get_or l.packed j (splat g.row.W zero)) ≡ column_of zero entries_of l.values j }
