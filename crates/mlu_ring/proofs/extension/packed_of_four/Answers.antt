use Rattle.std.proofs.Common.{set, ap, ◌∙◌}
use Rattle.mlu_ring.proofs.Filled.{written}
use Rattle.mlu_ring.proofs.extension.packed_of_four.Goals as goal

pub returns : goal.returns
returns g c =
    let ext = g.EF.ExtensionPacking.PackedFieldExtension in
    let args = c.args in
    c.set_packed_coefficient-4.ensures
    ∙ ap (λ l. set l 3 args.cubic) (c.set_packed_coefficient-3.ensures ∙ ap (λ l. set l 2 args.quadratic) (c.set_packed_coefficient-2.ensures ∙ ap (λ l. set l 1 args.linear) c.set_packed_coefficient.ensures))
    ∙ written (ext.packed_coefficients c.ZERO-packed.result) args.constant args.linear args.quadratic args.cubic
    (g.met.EF.ExtensionPacking.PackedFieldExtension.coefficients_are.length-parts c.ZERO-packed.result ∙ c.requires)
