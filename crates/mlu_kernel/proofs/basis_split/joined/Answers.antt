use Rattle.std.proofs.Common.{◌<◌, ◌≤◌, ◌+◌, ◌++◌, ◌∷◌, [], ◌∙◌, length, take, get_or, ap, sym, arith}
use Rattle.std.proofs.lemmas.List.{take_all, take_more, take_more_set}
use Rattle.mlu_kernel.proofs.basis_split.joined.Goals as goal

pub loop-k-preserved : goal.loop-k-preserved
loop-k-preserved g c =
    let k = c.loop-k.k in
    let x = get_or c.args.coefficients k c.index-coefficients-k.result in
    let old = g.EF.ExtensionPacking.PackedFieldExtension.packed_coefficients c.loop-k.packed in
    let long = g.met.EF.ExtensionPacking.PackedFieldExtension.coefficients_are.length-parts c.loop-k.packed in
    let within : c.loop-k.k < length (g.EF.ExtensionPacking.PackedFieldExtension.packed_coefficients c.loop-k.packed) = omega (arith, long, c.requires) in
    let below : c.loop-k.k < length c.args.coefficients = omega arith in
    ap (take (k + 1)) c.set_packed_coefficient.ensures
    ∙ take_more_set old k x within
    ∙ ap (λ l. l ++ x ∷ []) c.loop-k.invariant
    ∙ sym (take_more c.args.coefficients k c.index-coefficients-k.result below)

pub returns : goal.returns
returns g c =
    let long = g.met.EF.ExtensionPacking.PackedFieldExtension.coefficients_are.length-parts c.loop-k.packed in
    let whole : length (g.EF.ExtensionPacking.PackedFieldExtension.packed_coefficients c.loop-k.packed) ≤ c.loop-k.k = omega (arith, long, c.requires) in
    let all : length c.args.coefficients ≤ c.loop-k.k = omega arith in
    sym (take_all c.loop-k.k (g.EF.ExtensionPacking.PackedFieldExtension.packed_coefficients c.loop-k.packed) whole) ∙ c.loop-k.invariant ∙ take_all c.loop-k.k c.args.coefficients all
