use Rattle.std.proofs.Common.{◌≡◌, map}
use Rattle.mlu_command.specs.Words.{decimal_of}
use Rattle.mlu_command.proofs.words.read.Given as goal

abbrev pub invariant-loop-piece : goal.invariant-loop-piece
invariant-loop-piece l = record {
  can_next : (goal.iterator-loop-piece).can_next l.piece-iterator;
  is_finite : (goal.iterator-loop-piece).is_finite l.piece-iterator;
  entries : map decimal_of l.list.items ≡ map (λ x. x.now) l.yielded;
}
