use Rattle.std.proofs.Common.{◌≡◌, ◌/◌, ◌^◌, ◌<◌, length, refl, sym, ap, ◌∙◌, arith, rules}
use Rattle.mlu_point.proofs.Sizes.{split-sizes}
use Rattle.mlu_point.proofs.FilledColumns.{filled-none, filled-first}
use Rattle.mlu_point.proofs.eq_batch.lanes.+fill_column.Goals as goal

pub returns-then-height-eq0 : goal.returns-then-height-eq0
returns-then-height-eq0 g t c =
    filled-none g.S.Additive.ring g.met.S.Additive.laws g.E.EqualityEvaluator.image c.args.evals.values.now c.args.out.now c.args.evals.width c.args.i _ c.args.scale c.height.ensures c.if-height-eq0.true c.requires.size

pub fill_column-requires : goal.fill_column-requires
fill_column-requires g t c =
    let w = c.args.evals.width in
    let others = c.split_rows.result.1 in
    let some : 0 < w = omega (arith, c.requires.column) in
    let sizes = split-sizes c.args.evals.values.now others.values.now c.args.out.now _ _ w w _ some refl c.args.evals.rows c.height.ensures c.if-height-eq0.false c.split_rows.ensures.rest c.requires.size c.split_at_mut-low.ensures.front c.split_at_mut-low.ensures.back in
    let shorter : length others.values.now < length c.args.evals.values.now = sizes.0 in
    let width = c.split_rows.ensures.rest_width in
    let column : c.args.i < others.width = omega (arith, width, c.requires.column) in
    let size : length c.split_at_mut-low.result.0.now ≡ 2 ^ (length others.values.now / others.width) = sizes.2 ∙ ap (λ n. 2 ^ (length others.values.now / n)) (sym width) in
    search rules

pub fill_column-requires-2 : goal.fill_column-requires-2
fill_column-requires-2 g t c =
    let w = c.args.evals.width in
    let others = c.split_rows.result.1 in
    let some : 0 < w = omega (arith, c.requires.column) in
    let sizes = split-sizes c.args.evals.values.now others.values.now c.args.out.now _ _ w w _ some refl c.args.evals.rows c.height.ensures c.if-height-eq0.false c.split_rows.ensures.rest c.requires.size c.split_at_mut-low.ensures.front c.split_at_mut-low.ensures.back in
    let shorter : length others.values.now < length c.args.evals.values.now = sizes.0 in
    let width = c.split_rows.ensures.rest_width in
    let column : c.args.i < others.width = omega (arith, width, c.requires.column) in
    let size : length c.split_at_mut-low.result.1.now ≡ 2 ^ (length others.values.now / others.width) = sizes.3 ∙ ap (λ n. 2 ^ (length others.values.now / n)) (sym width) in
    search rules

pub returns : goal.returns
returns g t c =
    filled-first g.S.Additive.ring g.met.S.Additive.laws g.E.EqualityEvaluator.image c.args.evals.values.now c.split_rows.result.0.values.now c.split_rows.result.1.values.now c.args.evals.width c.split_rows.result.1.width c.args.i _ c.args.scale
    c.sub.result c.multiply-share.result c.index-first-i.result c.fill_column.new.out c.fill_column-2.new.out
    c.split_rows.ensures.rest_width c.requires.column c.args.evals.rows c.height.ensures c.if-height-eq0.false c.split_rows.ensures.first c.split_rows.ensures.rest c.index-first-i.is
    (c.multiply-share.ensures ∙ ap (λ x. g.S.Additive.ring.product c.args.scale (g.E.EqualityEvaluator.image x)) (sym c.index-first-i.is))
    (g.met.S.Additive.subtracts c.args.scale c.multiply-share.result c.sub.result c.sub.ensures) c.fill_column.ensures c.fill_column-2.ensures
