use Rattle.std.proofs.Common.{◌≡◌, ◌<◌, ◌∙◌, ℕ, map, length, get_or, sym, ap, arith}
use Rattle.std.specs.Simd.Lanes.{zip2}
use Rattle.mlu_ring.specs.Lanes.{splat_of}
use Rattle.mlu_ring.specs.Tables.{pair}
use Rattle.mlu_ring.proofs.Tabulated.{tabulate, length-tabulate, get_or-tabulate}
use Rattle.mlu_ring.proofs.Zips.{zip_step, zip_whole}
use Rattle.mlu_ring.proofs.PackedCoefficients.{packed_extension}
use Rattle.mlu_kernel.proofs.FourRows.{products_of, grown-four, plus_rows-products}
use Rattle.mlu_kernel.proofs.four_rows.plus_four_products.Goals as goal

pub returns-then-DIMENSION-eq-FOUR : goal.returns-then-DIMENSION-eq-FOUR
returns-then-DIMENSION-eq-FOUR g c =
    let packing = g.F.Packing.Additive.ring in
    let base = g.F.Packing.PackedValue in
    let met = g.met.EF.ExtensionPacking.PackedFieldExtension in
    let laws = packed_extension g.met.F.Packing.PackedValue.lanes_are g.met.F.Lanewise.lane_by_lane g.met.F.Packing.Additive.laws
    g.met.EF.Additive.laws g.met.EF.ExtensionField.coefficients_are g.met.EF.ExtensionField.coefficients_sum g.met.EF.ExtensionField.coefficients_scale
    g.met.EF.ExtensionPacking.Additive.laws met.lanes_are met.lane_by_lane met.embeds_packing met.coefficients_are met.transposed in
    let ws = c.args.weights.now in
    let bs = c.args.blocks.now in
    let old = g.EF.ExtensionPacking.PackedFieldExtension.packed_coefficients c.args.packed in
    let term = λ (k : ℕ). pair packing bs (map (splat_of base.WIDTH base.of_lanes) (map (λ w. get_or (g.EF.ExtensionField.coefficients w) k g.F.Additive.ring.zero) ws)) in
    let four : g.EF.ExtensionField.DIMENSION ≡ 4 = omega (arith, c.DIMENSION.ensures, c.if-DIMENSION-eq-FOUR.true) in
    plus_rows-products laws g.EF.ExtensionPacking.Algebra-1.embed met.embeds_element c.args.packed c.packed_of_four.result ws bs (c.requires.weights ∙ sym c.requires.blocks)
    (c.packed_of_four.ensures
    ∙ grown-four packing.sum old term _ _ _ _ _ _ _ _ packing.zero (met.coefficients_are.length-parts c.args.packed ∙ four)
    (c.packed_coefficient.ensures packing.zero) (c.packed_coefficient-then-DIMENSION-eq-FOUR.ensures packing.zero)
    (c.packed_coefficient-then-DIMENSION-eq-FOUR-2.ensures packing.zero) (c.packed_coefficient-then-DIMENSION-eq-FOUR-3.ensures packing.zero)
    c.grown_coefficient.ensures c.grown_coefficient-then-DIMENSION-eq-FOUR.ensures c.grown_coefficient-then-DIMENSION-eq-FOUR-2.ensures c.grown_coefficient-then-DIMENSION-eq-FOUR-3.ensures
    ∙ ap (λ n. zip2 packing.sum old (tabulate n term)) (sym four))

pub loop-k-preserved : goal.loop-k-preserved
loop-k-preserved g c =
    let packing = g.F.Packing.Additive.ring in
    let base = g.F.Packing.PackedValue in
    let dimension = g.EF.ExtensionField.DIMENSION in
    let k = c.loop-k.k in
    let old = g.EF.ExtensionPacking.PackedFieldExtension.packed_coefficients c.args.packed in
    let products = products_of g.F.Additive.ring packing base.WIDTH base.of_lanes dimension g.EF.ExtensionField.coefficients c.args.weights.now c.args.blocks.now in
    let long = g.met.EF.ExtensionPacking.PackedFieldExtension.coefficients_are.length-parts c.args.packed in
    let below : c.loop-k.k < g.EF.ExtensionField.DIMENSION = omega (arith, c.DIMENSION-k-end.ensures) in
    let within : c.loop-k.k < length (g.EF.ExtensionPacking.PackedFieldExtension.packed_coefficients c.args.packed) = omega (arith, long, below) in
    c.set_packed_coefficient.ensures
    ∙ zip_step packing.sum old products _ k c.packed_coefficient-in-loop-k.result _ c.grown_coefficient-grown.result within (long ∙ sym (length-tabulate dimension _)) c.loop-k.invariant
    (c.packed_coefficient-in-loop-k.ensures c.packed_coefficient-in-loop-k.result)
    (sym (get_or-tabulate dimension _ k _ below))
    c.grown_coefficient-grown.ensures

pub returns : goal.returns
returns g c =
    let packing = g.F.Packing.Additive.ring in
    let base = g.F.Packing.PackedValue in
    let met = g.met.EF.ExtensionPacking.PackedFieldExtension in
    let laws = packed_extension g.met.F.Packing.PackedValue.lanes_are g.met.F.Lanewise.lane_by_lane g.met.F.Packing.Additive.laws
    g.met.EF.Additive.laws g.met.EF.ExtensionField.coefficients_are g.met.EF.ExtensionField.coefficients_sum g.met.EF.ExtensionField.coefficients_scale
    g.met.EF.ExtensionPacking.Additive.laws met.lanes_are met.lane_by_lane met.embeds_packing met.coefficients_are met.transposed in
    let ws = c.args.weights.now in
    let bs = c.args.blocks.now in
    let old = g.EF.ExtensionPacking.PackedFieldExtension.packed_coefficients c.args.packed in
    let products = products_of g.F.Additive.ring packing base.WIDTH base.of_lanes g.EF.ExtensionField.DIMENSION g.EF.ExtensionField.coefficients ws bs in
    let long = met.coefficients_are.length-parts c.args.packed in
    let end : g.EF.ExtensionField.DIMENSION ≡ c.loop-k.k = omega (arith, c.DIMENSION-k-end.ensures) in
    plus_rows-products laws g.EF.ExtensionPacking.Algebra-1.embed met.embeds_element c.args.packed c.loop-k.sum ws bs (c.requires.weights ∙ sym c.requires.blocks)
    (c.loop-k.invariant ∙ zip_whole packing.sum old products c.loop-k.k (long ∙ end) (long ∙ sym (length-tabulate g.EF.ExtensionField.DIMENSION _)))
