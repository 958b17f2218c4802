use Rattle.std.proofs.Common.{◌∙◌, ap, sym}
use Rattle.mlu_ring.specs.Lanes.{logical}
use Rattle.mlu_kernel.specs.Kernels.{double_sum}
use Rattle.mlu_eq.proofs.Contents.{pair-contents}
use Rattle.mlu_eq.proofs.split.dot.dot_packed.Goals as goal

pub returns : goal.returns
returns g c =
    let ring = g.EF.Additive.ring in
    let e = logical g.EF.ExtensionPacking.PackedFieldExtension.ext_lanes c.args.entries.now in
    c.dot_of_packed_rows.ensures
    ∙ ap (λ half. double_sum ring c.args.eq0.now half.weights e) (sym c.in-Packed.ensures.0)
    ∙ sym (pair-contents ring g.met.EF.Additive.laws c.args.eq0.now c.args.eq1.now.weights e)
