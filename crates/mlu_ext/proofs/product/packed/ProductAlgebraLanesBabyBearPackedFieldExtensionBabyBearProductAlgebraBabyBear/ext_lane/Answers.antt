-- The entries below c are those of lane k.
use Rattle.std.proofs.Common.{◌≡◌, ◌<◌, length, get_or, sym, ap, ◌∙◌, arith, length-set}
use Rattle.std.proofs.lemmas.List.{get_or-map}
use Rattle.mlu_ring.proofs.Filled.{filled_next, filled_whole, read_default}
use Rattle.mlu_lanes.specs.LaneRing.{values_of, splat}
use Rattle.mlu_lanes.specs.BabyBear.{baby_bear_ring}
use Rattle.mlu_ext.specs.Product.{entries_of, same_entries}
use Rattle.mlu_ext.specs.ProductMaps.{product_lane}
use Rattle.mlu_ext.proofs.ProductLanes.{product-of_lane}
use Rattle.mlu_ext.proofs.product.packed.ProductAlgebraLanesBabyBearPackedFieldExtensionBabyBearProductAlgebraBabyBear.ext_lane.Goals as goal

pub loop-c-preserved : goal.loop-c-preserved
loop-c-preserved g c =
    let zero = (baby_bear_ring g.row.W).zero in
    let packed = entries_of c.args.self.now in
    let lane = product_lane g.row.W g.row.D zero c.args.self.now c.args.k in
    let q = splat g.row.W zero in
    let long = c.loop-c.invariant.long in
    let room : c.loop-c.c < length c.loop-c.entries = omega (arith, long) in
    let full : length packed ≡ g.row.D = c.args.self.now.copies.full in
    let same = c.to_array-packed.ensures in
    let in_packed : c.loop-c.c < length packed = omega (arith, full) in
    let in_array : c.loop-c.c < length c.to_array-packed.result = rw same in_packed in
    let read = read_default q c.to_array-packed.result packed c.loop-c.c c.index-packed-c.result in_array c.index-packed-c.is same in
    record {
      long = rw length-set long;
      filled = filled_next zero c.loop-c.entries (entries_of lane) c.loop-c.c c.lane.result room c.loop-c.invariant.filled
          (c.lane.ensures zero ∙ ap (λ r. get_or (values_of r) c.args.k zero) (sym c.index-packed-c.is ∙ read)
          ∙ sym (get_or-map (λ r. get_or (values_of r) c.args.k zero) packed c.loop-c.c q zero in_packed));
    }

pub returns : goal.returns
returns g c =
    λ e.
    let zero = (baby_bear_ring g.row.W).zero in
    let lane = product_lane g.row.W g.row.D zero c.args.self.now c.args.k in
    let long = c.loop-c.invariant.long in
    let full : length (entries_of lane) ≡ g.row.D = lane.copies.full in
    same_entries g.row.D c.from_array.result lane
    (c.from_array.ensures ∙ filled_whole zero c.loop-c.entries (entries_of lane) c.loop-c.c (omega (arith, long)) (long ∙ sym full) c.loop-c.invariant.filled)
    ∙ sym (product-of_lane g.row.W g.row.D zero c.args.self.now c.args.k e c.requires)
