-- Each coefficient of the product is a sum of four products with elements.
use Rattle.std.proofs.Common.{ap, ◌∙◌}
use Rattle.mlu_lanes.specs.LaneRing.{lane_ring, lane_laws, splat, splat_is_ring_map}
use Rattle.mlu_ext.specs.Eleven.{eleven}
use Rattle.mlu_ext.specs.Quartic.{quartic_map}
use Rattle.mlu_ext.specs.QuarticMaps.{image-eleven}
use Rattle.mlu_ext.proofs.QuarticSums.{product-rows}
use Rattle.mlu_ext.proofs.quartic.algebra.QuarticExtensionLanesAlgebraQuarticExtension.scale.Goals as goal

pub returns : goal.returns
returns g c =
    let w = g.row.W in
    let ring = g.F.Additive.ring in
    let laws = g.met.F.Additive.laws in
    let lanes = lane_ring w ring in
    let keeps = splat_is_ring_map w ring in
    let b = c.args.b in
    let eleven_lanes = image-eleven ring lanes (splat w) laws (lane_laws w ring laws) keeps in
    let first = ap (splat w) c.wrapped.ensures.linear ∙ keeps.product (eleven ring) b.c1 ∙ ap (λ t. lanes.product t (splat w b.c1)) eleven_lanes in
    let second = ap (splat w) c.wrapped.ensures.quadratic ∙ keeps.product (eleven ring) b.c2 ∙ ap (λ t. lanes.product t (splat w b.c2)) eleven_lanes in
    let third = ap (splat w) c.wrapped.ensures.cubic ∙ keeps.product (eleven ring) b.c3 ∙ ap (λ t. lanes.product t (splat w b.c3)) eleven_lanes in
    product-rows lanes (lane_laws w ring laws) c.args.self (quartic_map (splat w) b) _ _ _ _ _ _ _ first second third
    c.row_times_column.ensures c.row_times_column-2.ensures c.row_times_column-3.ensures c.row_times_column-4.ensures
