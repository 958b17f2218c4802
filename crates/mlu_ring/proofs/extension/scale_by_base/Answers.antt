use Rattle.std.proofs.Common.{◌≡◌, ℕ, ◌<◌, ◌∙◌, length, get_or, ap, arith}
use Rattle.mlu_ring.specs.Lanes.{splat_of}
use Rattle.mlu_ring.proofs.Filled.{filled_by_next, four-at}
use Rattle.mlu_ring.proofs.PackedCoefficients.{packed_extension, scaled_by_base}
use Rattle.mlu_ring.proofs.extension.scale_by_base.Goals as goal

pub returns-then-DIMENSION-eq-FOUR : goal.returns-then-DIMENSION-eq-FOUR
returns-then-DIMENSION-eq-FOUR g c =
    let packing = g.F.Packing.Additive.ring in
    let splat = splat_of g.F.Packing.PackedValue.WIDTH g.F.Packing.PackedValue.of_lanes c.args.factor in
    let of = λ (p : g.row.F-Packing.Denot). packing.product p splat in
    let met = g.met.EF.ExtensionPacking.PackedFieldExtension in
    let laws = packed_extension g.met.F.Packing.PackedValue.lanes_are g.met.F.Lanewise.lane_by_lane g.met.F.Packing.Additive.laws
    g.met.EF.Additive.laws g.met.EF.ExtensionField.coefficients_are g.met.EF.ExtensionField.coefficients_sum g.met.EF.ExtensionField.coefficients_scale
    g.met.EF.ExtensionPacking.Additive.laws met.lanes_are met.lane_by_lane met.embeds_packing met.coefficients_are met.transposed in
    let four : g.EF.ExtensionField.DIMENSION ≡ 4 = omega (arith, c.DIMENSION.ensures, c.if-DIMENSION-eq-FOUR.true) in
    let each = four-at (g.EF.ExtensionPacking.PackedFieldExtension.packed_coefficients c.packed_of_four.result) _ _ _ _ packing.zero
    (λ (k : ℕ). of (get_or (g.EF.ExtensionPacking.PackedFieldExtension.packed_coefficients c.args.packed) k packing.zero)) c.packed_of_four.ensures
    (c.lanes_scale.ensures ∙ ap of (c.packed_coefficient.ensures packing.zero))
    (c.lanes_scale-then-DIMENSION-eq-FOUR.ensures ∙ ap of (c.packed_coefficient-then-DIMENSION-eq-FOUR.ensures packing.zero))
    (c.lanes_scale-then-DIMENSION-eq-FOUR-2.ensures ∙ ap of (c.packed_coefficient-then-DIMENSION-eq-FOUR-2.ensures packing.zero))
    (c.lanes_scale-then-DIMENSION-eq-FOUR-3.ensures ∙ ap of (c.packed_coefficient-then-DIMENSION-eq-FOUR-3.ensures packing.zero)) in
    scaled_by_base laws c.args.packed c.packed_of_four.result c.args.factor (λ j h. each j (omega (arith, h, four)))

pub loop-k-preserved : goal.loop-k-preserved
loop-k-preserved g c =
    let packing = g.F.Packing.Additive.ring in
    let splat = splat_of g.F.Packing.PackedValue.WIDTH g.F.Packing.PackedValue.of_lanes c.args.factor in
    let of = λ (p : g.row.F-Packing.Denot). packing.product p splat in
    let old = g.EF.ExtensionPacking.PackedFieldExtension.packed_coefficients c.loop-k.scaled in
    let long = g.met.EF.ExtensionPacking.PackedFieldExtension.coefficients_are.length-parts c.loop-k.scaled in
    let within : c.loop-k.k < length (g.EF.ExtensionPacking.PackedFieldExtension.packed_coefficients c.loop-k.scaled) = omega (arith, long, c.DIMENSION-k-end.ensures) in
    λ j h.
    ap (λ l. get_or l j packing.zero) c.set_packed_coefficient.ensures
    ∙ filled_by_next packing.zero old (λ (k : ℕ). of (get_or (g.EF.ExtensionPacking.PackedFieldExtension.packed_coefficients c.args.packed) k packing.zero)) c.loop-k.k c.lanes_scale-product.result within c.loop-k.invariant (c.lanes_scale-product.ensures ∙ ap of (c.packed_coefficient-in-loop-k.ensures packing.zero)) j h

pub returns : goal.returns
returns g c =
    let met = g.met.EF.ExtensionPacking.PackedFieldExtension in
    let laws = packed_extension g.met.F.Packing.PackedValue.lanes_are g.met.F.Lanewise.lane_by_lane g.met.F.Packing.Additive.laws
    g.met.EF.Additive.laws g.met.EF.ExtensionField.coefficients_are g.met.EF.ExtensionField.coefficients_sum g.met.EF.ExtensionField.coefficients_scale
    g.met.EF.ExtensionPacking.Additive.laws met.lanes_are met.lane_by_lane met.embeds_packing met.coefficients_are met.transposed in
    scaled_by_base laws c.args.packed c.loop-k.scaled c.args.factor (λ j h. c.loop-k.invariant j (omega (arith, c.DIMENSION-k-end.ensures)))
