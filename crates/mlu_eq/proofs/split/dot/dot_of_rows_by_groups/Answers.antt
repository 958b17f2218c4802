use Rattle.std.proofs.Common.{◌∙◌, [], map, length, refl, ap, sym}
use Rattle.std.proofs.lemmas.List.{take_all}
use Rattle.mlu_ring.specs.Tables.{pair}
use Rattle.mlu_kernel.specs.Kernels.{double_sum}
use Rattle.mlu_kernel.proofs.DoubleSums.{double_sum-none, double_sum_step}
use Rattle.mlu_eq.proofs.RowsMapped.{row-map}
use Rattle.mlu_eq.proofs.split.dot.dot_of_rows_by_groups.Goals as goal

pub loop-j-init : goal.loop-j-init
loop-j-init g c =
    c.ZERO-sum.ensures
    ∙ g.met.EF.Additive.zero_is
    ∙ sym (double_sum-none g.EF.Additive.ring g.met.EF.Additive.laws [] c.args.weights.now (map g.EF.Algebra.embed c.args.entries.now) refl)

pub loop-j-preserved : goal.loop-j-preserved
loop-j-preserved g c =
    let ring = g.EF.Additive.ring in
    let e = map g.EF.Algebra.embed c.args.entries.now in
    let r = length c.args.weights.now in
    g.met.EF.Additive.adds c.loop-j.sum c.mul.result c.add-sum.result c.add-sum.ensures
    ∙ ap (ring.sum c.loop-j.sum) (g.met.EF.PrimeCharacteristicRing.multiplies c.index-eq0-j.result c.base_dot.result c.mul.result c.mul.ensures)
    ∙ double_sum_step ring g.met.EF.Additive.laws c.args.eq0.now c.args.weights.now e c.loop-j.j r c.index-eq0-j.result c.loop-j.sum c.base_dot.result
    c.loop-j-test.true refl c.index-eq0-j.is
    (c.base_dot.ensures ∙ ap (pair ring c.args.weights.now) (row-map g.EF.Algebra.embed c.args.entries.now c.row_of.result.now r c.loop-j.j (c.row_of.ensures.exact r c.requires)))
    c.loop-j.invariant

pub returns : goal.returns
returns g c =
    c.loop-j.invariant ∙ ap (λ rows. double_sum g.EF.Additive.ring rows c.args.weights.now (map g.EF.Algebra.embed c.args.entries.now)) (take_all c.loop-j.j c.args.eq0.now c.loop-j-test.false)
