use Rattle.std.proofs.Common.{◌∙◌, map, ap, sym}
use Rattle.mlu_kernel.specs.Kernels.{double_sum}
use Rattle.mlu_eq.proofs.Contents.{pair-contents}
use Rattle.mlu_eq.proofs.split.dot.dot_base.Goals as goal

pub returns-in-Scalar : goal.returns-in-Scalar
returns-in-Scalar g c =
    let ring = g.EF.Additive.ring in
    let e = map g.EF.Algebra.embed c.args.entries.now in
    c.dot_of_rows.ensures
    ∙ ap (λ half. double_sum ring c.args.eq0.now half.weights e) (sym c.in-Scalar.ensures)
    ∙ sym (pair-contents ring g.met.EF.Additive.laws c.args.eq0.now c.args.eq1.now.weights e)

pub returns-in-Packed : goal.returns-in-Packed
returns-in-Packed g c =
    let ring = g.EF.Additive.ring in
    let e = map g.EF.Algebra.embed c.args.entries.now in
    c.packed_dot.ensures
    ∙ ap (λ half. double_sum ring c.args.eq0.now half.weights e) (sym c.in-Packed.ensures.0)
    ∙ sym (pair-contents ring g.met.EF.Additive.laws c.args.eq0.now c.args.eq1.now.weights e)
