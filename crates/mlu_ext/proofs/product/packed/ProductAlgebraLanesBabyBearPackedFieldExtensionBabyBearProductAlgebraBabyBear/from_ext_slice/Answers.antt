-- The columns below c are written.
use Rattle.std.proofs.Common.{◌<◌, ◌≢◌, length, get_or, ap, ◌∙◌, arith, below_more, get_or-set_other, get_or-set_same, length-set}
use Rattle.mlu_lanes.specs.LaneRing.{values_of, splat}
use Rattle.mlu_lanes.specs.BabyBear.{baby_bear_ring}
use Rattle.mlu_ext.specs.ProductMaps.{product_layout}
use Rattle.mlu_ext.proofs.Transposed.{elements-of_columns}
use Rattle.mlu_ext.proofs.product.packed.ProductAlgebraLanesBabyBearPackedFieldExtensionBabyBearProductAlgebraBabyBear.from_ext_slice.Goals as goal

pub loop-c-preserved : goal.loop-c-preserved
loop-c-preserved g c =
    let packed = c.loop-c.packed in
    let q = splat g.row.W (baby_bear_ring g.row.W).zero in
    let long = c.loop-c.invariant.long in
    let room : c.loop-c.c < length packed = omega (arith, long) in
    record {
      long = rw length-set long;
      columns = below_more _ _
          (λ j h. let other : j ≢ c.loop-c.c = omega arith in ap values_of (get_or-set_other packed c.loop-c.c j c.column.result q other) ∙ c.loop-c.invariant.columns j h)
          (ap values_of (get_or-set_same packed c.loop-c.c c.column.result q room) ∙ c.column.ensures);
    }

pub returns : goal.returns
returns g c =
    let zero = (baby_bear_ring g.row.W).zero in
    let q = splat g.row.W zero in
    elements-of_columns zero (product_layout g.row.W g.row.D zero) c.from_array.result c.args.values.now q c.requires
    (λ j h. ap (λ l. values_of (get_or l j q)) c.from_array.ensures ∙ c.loop-c.invariant.columns j (omega arith))
