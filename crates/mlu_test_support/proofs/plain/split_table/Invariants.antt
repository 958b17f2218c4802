use Rattle.std.proofs.Common.{◌≡◌, length}
use Rattle.mlu_test_support.proofs.plain.split_table.Given as goal

abbrev pub invariant-loop-j : goal.invariant-loop-j
invariant-loop-j g l = length l.whole.items ≡ length l.initial.whole.items
