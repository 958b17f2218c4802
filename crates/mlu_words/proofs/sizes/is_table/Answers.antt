use Rattle.std.proofs.Common.{◌≡◌, ◌<◌, ◌^◌, ◌∙◌, IsTrue, ap, sym, subst, rules}
use Rattle.std.specs.Int.{is_power_of_two}
use Rattle.std.specs.Int.Count.{count_trailing_zeros}
use Rattle.mlu_ring.proofs.PowersOfTwo.{power_of_test, is_power_of_two-power}
use Rattle.mlu_words.specs.Codings.{element_count}
use Rattle.mlu_words.proofs.sizes.is_table.Goals as goal

pub returns-then-are_whole : goal.returns-then-are_whole
returns-then-are_whole g c =
    let n = element_count g.T.Words.coding c.args.words.now in
    let test : c.is_power_of_two.result ≡ is_power_of_two n = c.is_power_of_two.ensures ∙ ap is_power_of_two c.count_of.ensures in
    let fits : n < 2 ^ 64 = subst (λ m. m < 2 ^ 64) c.count_of.ensures c.count_of.type_inv in (
      λ t. (c.are_whole.ensures.0 (subst IsTrue (sym c.if-are_whole.true) (search rules)), (count_trailing_zeros 64 n, power_of_test n fits (subst IsTrue test t))),
      λ h. subst IsTrue (sym test) (is_power_of_two-power n h.1.0 h.1.1),
    )
