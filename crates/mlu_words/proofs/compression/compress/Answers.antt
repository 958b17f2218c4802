use Rattle.std.proofs.Common.{◌≡◌, ◌*◌, ◌^◌, ◌∙◌, length, ap, sym}
use Rattle.mlu_words.specs.Codings.{element_count}
use Rattle.mlu_words.proofs.Lengths.{rows-within, length-compressed}
use Rattle.mlu_words.proofs.compression.compress.Goals as goal

pub compressed-requires : goal.compressed-requires
compressed-requires g c =
    let tested = c.in_ok-check_operands.ensures in
    let left = element_count g.EF.Words.coding c.args.out.now in
    let rows : length c.in_ok-table.table ≡ 2 ^ length c.in_ok-table.point * left = c.in_ok-table.ensures.table_size ∙ tested.1 ∙ ap (λ n. 2 ^ n * left) (sym c.in_ok-table.ensures.point_size) in
    rows-within (length c.in_ok-table.table) (length c.in_ok-table.point) left rows tested.0.3.1

pub write-requires : goal.write-requires
write-requires g c =
    let tested = c.in_ok-check_operands.ensures in
    let left = element_count g.EF.Words.coding c.args.out.now in
    let rows : length c.in_ok-table.table ≡ 2 ^ length c.in_ok-table.point * left = c.in_ok-table.ensures.table_size ∙ tested.1 ∙ ap (λ n. 2 ^ n * left) (sym c.in_ok-table.ensures.point_size) in
    let size : length c.as_slice.result.now ≡ left =
    ap length (c.as_slice.ensures.value ∙ c.in_ok-left.ensures)
    ∙ length-compressed g.EF.Additive.ring g.EF.Algebra.embed c.args.variables c.in_ok-table.table c.in_ok-table.point c.from_words.result left rows in
    tested.0.3.0 ∙ ap (λ n. n * g.EF.Words.coding.width) (sym size)
