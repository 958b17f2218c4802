use Rattle.std.proofs.Common.{◌∙◌, [], length, refl, ap, sym}
use Rattle.std.proofs.lemmas.List.{take_all}
use Rattle.mlu_ring.specs.Tables.{pair}
use Rattle.mlu_kernel.specs.Kernels.{double_sum}
use Rattle.mlu_kernel.proofs.DoubleSums.{double_sum-none, double_sum_step}
use Rattle.mlu_eq.proofs.Contents.{pair-contents}
use Rattle.mlu_eq.proofs.split.dot.dot_ext.Goals as goal

pub loop-j-init : goal.loop-j-init
loop-j-init g c =
    let w = c.args.eq1.now.weights in
    c.ZERO-sum.ensures ∙ g.met.EF.Additive.zero_is ∙ sym (double_sum-none g.EF.Additive.ring g.met.EF.Additive.laws [] w c.args.entries.now refl)

pub loop-j-preserved : goal.loop-j-preserved
loop-j-preserved g c =
    let w = c.args.eq1.now.weights in
    let ring = g.EF.Additive.ring in
    g.met.EF.Additive.adds c.loop-j.sum c.mul.result c.add-sum.result c.add-sum.ensures
    ∙ ap (ring.sum c.loop-j.sum) (g.met.EF.PrimeCharacteristicRing.multiplies c.index-eq0-j.result c.row_dot.result c.mul.result c.mul.ensures)
    ∙ double_sum_step ring g.met.EF.Additive.laws c.args.eq0.now w c.args.entries.now c.loop-j.j (length w) c.index-eq0-j.result c.loop-j.sum c.row_dot.result
    c.loop-j-test.true refl c.index-eq0-j.is
    (c.row_dot.ensures ∙ ap (pair ring w) (c.row_of.ensures.exact (length w) c.requires))
    c.loop-j.invariant

pub returns : goal.returns
returns g c =
    let w = c.args.eq1.now.weights in
    let ring = g.EF.Additive.ring in
    c.loop-j.invariant
    ∙ ap (λ rows. double_sum ring rows w c.args.entries.now) (take_all c.loop-j.j c.args.eq0.now c.loop-j-test.false)
    ∙ sym (pair-contents ring g.met.EF.Additive.laws c.args.eq0.now w c.args.entries.now)
