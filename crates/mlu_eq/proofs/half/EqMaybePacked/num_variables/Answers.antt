use Rattle.std.proofs.Common.{◌^◌, ◌<◌, ◌∙◌, length, sym, subst, arith}
use Rattle.mlu_ring.proofs.PowersOfTwo.{exponent_fits, is_power_of_two-power}
use Rattle.mlu_eq.proofs.Halves.{packed_length}
use Rattle.mlu_eq.proofs.Lengths.{lanes_of_powers}
use Rattle.mlu_eq.proofs.half.EqMaybePacked.num_variables.Goals as goal

pub log2_strict_usize-lanes-requires : goal.log2_strict_usize-lanes-requires
log2_strict_usize-lanes-requires g c = is_power_of_two-power c.WIDTH.result g.F.Packing.PackedValue.LOG_WIDTH (c.WIDTH.ensures ∙ g.met.F.Packing.PackedValue.width_is)

pub overflow_add-result : goal.overflow_add-result
overflow_add-result g c =
    let elements = exponent_fits c.log2_strict_usize-elements.result (subst (λ m. m < 2 ^ 64) c.log2_strict_usize-elements.ensures c.as_slice-in-Packed.type_inv.0) in
    let lanes = exponent_fits c.log2_strict_usize-lanes.result (subst (λ m. m < 2 ^ 64) c.log2_strict_usize-lanes.ensures c.WIDTH.type_inv) in
    omega (arith, elements, lanes)

pub returns-in-Packed-clause-small : goal.returns-in-Packed-clause-small
returns-in-Packed-clause-small g c =
    let elements = exponent_fits c.log2_strict_usize-elements.result (subst (λ m. m < 2 ^ 64) c.log2_strict_usize-elements.ensures c.as_slice-in-Packed.type_inv.0) in
    let lanes = exponent_fits c.log2_strict_usize-lanes.result (subst (λ m. m < 2 ^ 64) c.log2_strict_usize-lanes.ensures c.WIDTH.type_inv) in
    omega (arith, elements, lanes)

pub returns-in-Scalar-clause-small : goal.returns-in-Scalar-clause-small
returns-in-Scalar-clause-small g c =
    let elements = exponent_fits c.log2_strict_usize.result (subst (λ m. m < 2 ^ 64) c.log2_strict_usize.ensures c.as_slice.type_inv.0) in
    omega (arith, elements)

pub returns-in-Packed-clause-value : goal.returns-in-Packed-clause-value
returns-in-Packed-clause-value g c =
    let lanes = g.EF.ExtensionPacking.PackedFieldExtension.ext_lanes in
    let n = g.F.Packing.PackedValue.WIDTH in
    let long = g.met.EF.ExtensionPacking.PackedFieldExtension.lanes_are.length-parts in
    lanes_of_powers (length c.as_slice-in-Packed.result.now) n c.log2_strict_usize-elements.result c.log2_strict_usize-lanes.result _ c.log2_strict_usize-elements.ensures (sym c.WIDTH.ensures ∙ c.log2_strict_usize-lanes.ensures)
    (packed_length lanes c.args.self.now c.self.inside.weights c.self.view_is n long c.in-Packed.weights c.as_slice-in-Packed.result.now c.in-Packed.is c.as_slice-in-Packed.ensures.value)
