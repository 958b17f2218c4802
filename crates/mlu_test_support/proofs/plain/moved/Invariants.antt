use Rattle.std.proofs.Common.{◌≡◌, length}
use Rattle.mlu_test_support.proofs.plain.moved.Given as goal

abbrev pub invariant-loop-x : goal.invariant-loop-x
invariant-loop-x g l = length l.moved.items ≡ length l.initial.moved.items
