-- The entries below c are those of the element, in all lanes.
use Rattle.std.proofs.Common.{◌≡◌, ◌<◌, length, get_or, map, sym, ap, ◌∙◌, arith}
use Rattle.std.proofs.lemmas.List.{length-map, get_or-map}
use Rattle.mlu_lanes.specs.LaneRing.{splat}
use Rattle.mlu_ext.specs.Product.{entries_of, same_entries}
use Rattle.mlu_ext.specs.ProductMaps.{product_map}
use Rattle.mlu_ring.proofs.Filled.{filled_next, filled_whole}
use Rattle.mlu_ext.proofs.product.algebra.ProductAlgebraLanesAlgebraProductAlgebra.from_base.Goals as goal

pub loop-c-preserved : goal.loop-c-preserved
loop-c-preserved g c =
    let zero = g.F.Additive.ring.zero in
    let q = splat g.row.W zero in
    let entries = entries_of c.args.b in
    let packed = entries_of c.loop-c.packed in
    let full : length entries ≡ g.row.D = c.args.b.copies.full in
    let long : length packed ≡ g.row.D = c.loop-c.packed.copies.full in
    let in_entries : c.loop-c.c < length entries = omega (arith, full) in
    let lanes = c.from_base.ensures ∙ ap (splat g.row.W) (c.at.ensures zero) ∙ sym (get_or-map (splat g.row.W) entries c.loop-c.c zero q in_entries) in
    let next = filled_next q packed (map (splat g.row.W) entries) c.loop-c.c c.from_base.result (omega (arith, long)) c.loop-c.invariant lanes in
    λ k h. ap (λ l. get_or l k q) c.set_at.ensures ∙ next k h

pub returns : goal.returns
returns g c =
    let q = splat g.row.W g.F.Additive.ring.zero in
    let entries = entries_of c.args.b in
    let long : length (entries_of c.loop-c.packed) ≡ g.row.D = c.loop-c.packed.copies.full in
    let images : length (map (splat g.row.W) entries) ≡ g.row.D = length-map entries (splat g.row.W) ∙ c.args.b.copies.full in
    same_entries g.row.D c.loop-c.packed (product_map g.row.D (splat g.row.W) c.args.b)
    (filled_whole q (entries_of c.loop-c.packed) (map (splat g.row.W) entries) c.loop-c.c (omega (arith, long)) (omega (arith, long, images)) c.loop-c.invariant)
