use Rattle.std.proofs.Common.{◌≡◌, get_or, ◌/◌, ◌^◌, length, map, ap, sym, ◌∙◌}
use Rattle.std.proofs.lemmas.List.{length-map}
use Rattle.mlu_point.proofs.Batches.{batch-base}
use Rattle.mlu_point.proofs.eq_batch.add_rest.Goals as goal

pub returns-then-height-eq0 : goal.returns-then-height-eq0
returns-then-height-eq0 g c =
    let vs = c.args.evals.values.now in
    let s = c.args.scalars.now in
    let values = map g.E.EqualityEvaluator.image vs in
    let same : length values ≡ length vs = length-map vs g.E.EqualityEvaluator.image in
    let none : length values / length s ≡ 0 = ap (λ n. n / length s) same ∙ ap (λ n. length vs / n) (sym c.requires.width) ∙ sym c.height.ensures ∙ c.if-height-eq0.true in
    let size : length c.args.out.now ≡ 2 ^ (length values / length s) = c.requires.size ∙ ap (λ n. 2 ^ (n / length s)) (sym same) in
    batch-base g.EF.Additive.ring g.met.EF.Additive.laws _ values s c.args.out.now (get_or c.args.out.now 0 c.index-out-0.result) c.sum.result c.write_or_add.new.place none size (ap (λ x. get_or c.args.out.now 0 x) c.index-out-0.is) c.sum.ensures c.write_or_add.ensures
