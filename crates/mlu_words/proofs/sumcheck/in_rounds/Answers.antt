use Rattle.std.proofs.Common.{◌≡◌, ◌*◌, ◌/◌, [], ◌∷◌, ◌∙◌, length, ap, sym, arith}
use Rattle.std.proofs.lemmas.List.FromFn.{length-map-range_with_len}
use Rattle.mlu_ring.specs.Matrices.{row_at}
use Rattle.mlu_words.proofs.Reading.{one_more}
use Rattle.mlu_words.proofs.Rounds.{three}
use Rattle.mlu_words.proofs.sumcheck.in_rounds.Goals as goal

pub loop-i-preserved : goal.loop-i-preserved
loop-i-preserved g c =
    let elements = c.args.elements.now in
    let i = c.loop-i.i in
    let a = c.index-elements-start.result in
    let b = c.index-elements-start-in-loop-i.result in
    let d = c.index-elements-start-in-loop-i-2.result in
    let row : row_at 3 elements i ≡ a ∷ b ∷ d ∷ [] = three elements (i * 3) a b d (omega arith) c.index-elements-start.is c.index-elements-start-in-loop-i.is c.index-elements-start-in-loop-i-2.is in
    one_more (row_at 3 elements) i _ _ _ c.loop-i.invariant (sym row) c.in_ok-push.ensures.items

pub returns-clause-size : goal.returns-clause-size
returns-clause-size g c =
    let end : c.loop-i.i ≡ length c.args.elements.now / 3 = omega arith in
    ap length c.loop-i.invariant ∙ length-map-range_with_len (row_at 3 c.args.elements.now) 0 c.loop-i.i ∙ end
