use Rattle.std.proofs.Common.{◌≡◌, ℕ, ◌/◌, ◌∙◌, length, ap, arith}
use Rattle.std.proofs.lemmas.List.FromFn.{length-map-range_with_len}
use Rattle.mlu_ring.specs.Matrices.{row_at}
use Rattle.mlu_words.proofs.Reading.{one_more}
use Rattle.mlu_words.proofs.words.read.Goals as goal

pub loop-j-preserved : goal.loop-j-preserved
loop-j-preserved g c =
    let coding = g.T.Words.coding in
    let words = c.args.words.now in
    let j = c.loop-j.j in
    let row : c.from_words.result ≡ coding.element (row_at coding.width words j) = c.from_words.ensures ∙ ap coding.element (c.row_of_width.ensures ∙ ap (λ n. row_at n words j) c.width-width.ensures) in
    one_more (λ i. coding.element (row_at coding.width words i)) j _ _ c.from_words.result c.loop-j.invariant row c.in_ok-push.ensures.items

pub returns-clause-size : goal.returns-clause-size
returns-clause-size g c =
    let coding = g.T.Words.coding in
    let words = c.args.words.now in
    let element : ℕ → g.row.T.Denot = λ i. coding.element (row_at coding.width words i) in
    let end : c.loop-j.j ≡ length words / c.width-width.result = omega arith in
    ap length c.loop-j.invariant
    ∙ length-map-range_with_len element 0 c.loop-j.j
    ∙ end
    ∙ ap (λ n. length words / n) c.width-width.ensures
