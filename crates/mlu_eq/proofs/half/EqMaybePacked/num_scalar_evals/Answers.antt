use Rattle.std.proofs.Common.{◌*◌, ◌^◌, ◌<◌, ◌∙◌, rules, length, ap, sym, subst}
use Rattle.mlu_eq.proofs.Halves.{packed_length}
use Rattle.mlu_eq.proofs.Lengths.{positive_of_test, positive_of_lanes}
use Rattle.mlu_eq.proofs.half.EqMaybePacked.num_scalar_evals.Goals as goal

pub returns-in-Scalar-clause-some : goal.returns-in-Scalar-clause-some
returns-in-Scalar-clause-some g c = positive_of_test (length c.as_slice.result.now) c.as_slice.type_inv.0 c.as_slice.ensures.power

pub returns-in-Packed-clause-some : goal.returns-in-Packed-clause-some
returns-in-Packed-clause-some g c =
    positive_of_lanes (length c.as_slice-in-Packed.result.now) c.WIDTH.result g.F.Packing.PackedValue.LOG_WIDTH c.as_slice-in-Packed.type_inv.0 c.as_slice-in-Packed.ensures.power
    (c.WIDTH.ensures ∙ g.met.F.Packing.PackedValue.width_is)

pub returns-in-Packed-clause-value : goal.returns-in-Packed-clause-value
returns-in-Packed-clause-value g c =
    let lanes = g.EF.ExtensionPacking.PackedFieldExtension.ext_lanes in
    let n = g.F.Packing.PackedValue.WIDTH in
    let long = g.met.EF.ExtensionPacking.PackedFieldExtension.lanes_are.length-parts in
    ap (λ k. length c.as_slice-in-Packed.result.now * k) c.WIDTH.ensures
    ∙ sym (packed_length lanes c.args.self.now c.self.inside.weights c.self.view_is n long c.in-Packed.weights c.as_slice-in-Packed.result.now c.in-Packed.is c.as_slice-in-Packed.ensures.value)

pub overflow_mul-result : goal.overflow_mul-result
overflow_mul-result g c =
    let lanes = g.EF.ExtensionPacking.PackedFieldExtension.ext_lanes in
    let n = g.F.Packing.PackedValue.WIDTH in
    let long = g.met.EF.ExtensionPacking.PackedFieldExtension.lanes_are.length-parts in
    let size = ap (λ k. length c.as_slice-in-Packed.result.now * k) c.WIDTH.ensures ∙ sym (packed_length lanes c.args.self.now c.self.inside.weights c.self.view_is n long c.in-Packed.weights c.as_slice-in-Packed.result.now c.in-Packed.is c.as_slice-in-Packed.ensures.value) in
    let fits = subst (λ m. m < 2 ^ 64) (sym size) c.requires in
    search rules
