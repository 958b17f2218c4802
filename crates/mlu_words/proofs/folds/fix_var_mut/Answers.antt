use Rattle.std.proofs.Common.{◌≡◌, ◌*◌, ◌/◌, ◌∙◌, length, ap, sym, arith}
use Rattle.std.proofs.lemmas.List.{length-take-le}
use Rattle.mlu_words.specs.Codings.{element_count}
use Rattle.mlu_words.proofs.Lengths.{half-words, length-folded}
use Rattle.mlu_words.proofs.folds.fix_var_mut.Goals as goal

pub write-requires : goal.write-requires
write-requires g c =
    let tested = c.in_ok-check_operands.ensures in
    let words = c.args.words.now in
    let width = g.R.Words.coding.width in
    let entries = element_count g.R.Words.coding words in
    let half : length words / 2 ≡ entries / 2 * width = half-words (length words) entries width tested.0.0.0 tested.0.0.1 tested.1 in
    let size : length c.as_slice.result.now ≡ entries / 2 =
    ap length (c.as_slice.ensures.value ∙ c.fold.ensures)
    ∙ length-folded g.R.Additive.ring c.args.variable c.from_words.result c.in_ok-table.table
    ∙ ap (λ n. n / 2) c.in_ok-table.ensures.size in
    length-take-le (length words / 2) words (omega arith) ∙ half ∙ ap (λ n. n * width) (sym size)
