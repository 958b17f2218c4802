use Rattle.std.proofs.Common.{◌≡◌, List, length, map}
use Rattle.mlu_command.specs.Elements.{Element}
use Rattle.mlu_command.specs.Words.{decimal_of}
use Rattle.mlu_command.proofs.words.count.Given as goal

abbrev pub invariant-loop-piece : goal.invariant-loop-piece
invariant-loop-piece l = record {
  can_next : (goal.iterator-loop-piece).can_next l.piece-iterator;
  is_finite : (goal.iterator-loop-piece).is_finite l.piece-iterator;
  counted : l.n ≡ length l.yielded;
  entries : (xs : List Element) × (map decimal_of xs ≡ map (λ x. x.now) l.yielded);
}
