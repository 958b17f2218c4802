use Rattle.std.proofs.Common.{◌<◌, ◌∙◌, map, length, get_or, ap, subst}
use Rattle.mlu_ring.specs.Tables.{pair}
use Rattle.mlu_ring.specs.Successor.{shifted}
use Rattle.mlu_point.specs.Rules.{next_by}
use Rattle.mlu_eq.proofs.Lengths.{positive_of_test}
use Rattle.multilinear_util.specs.Split.{split_entries}
use Rattle.multilinear_util.proofs.Splits.{halves-entries}
use Rattle.multilinear_util.proofs.Successors.{sum-next}
use Rattle.multilinear_util.proofs.split_eq.SplitEq.eval_next_base_by.Goals as goal

pub returns : goal.returns
returns g c =
    let ring = g.EF.Additive.ring in
    let embed = g.EF.Algebra.embed in
    let table = split_entries ring c.args.self.now in
    let values = c.as_slice-values.result.now in
    let value = c.index-values-end.result in
    let place = c.index-values-end.is ∙ ap (λ k. get_or values k value) c.after_last-end.ensures.index in
    let size = ap length c.as_slice-values.ensures.value ∙ c.requires in
    let some : 0 < length values = positive_of_test (length values) c.as_slice-values.type_inv.0 c.as_slice-values.ensures.power in
    let steps = c.dot_base_shifted-steps.ensures ∙ ap (λ t. pair ring (shifted ring t) (map embed values)) (halves-entries ring c.args.self.now c.halves.result.0.now c.halves.result.1.now c.halves.ensures.first c.halves.ensures.second) in
    sum-next ring g.met.EF.Additive.laws c.args.rule embed table values c.dot_base_shifted-steps.result c.last_scalar.result c.scale.result c.add.result value
    (subst (λ n. 0 < n) size some) size steps c.last_scalar.ensures place c.scale.ensures (g.met.EF.Additive.adds c.dot_base_shifted-steps.result c.scale.result c.add.result c.add.ensures)
    ∙ ap (λ e. pair ring (next_by c.args.rule ring table) (map embed e)) c.as_slice-values.ensures.value
