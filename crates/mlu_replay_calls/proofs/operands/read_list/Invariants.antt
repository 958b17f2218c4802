use Rattle.std.proofs.Common.{map}
use Rattle.mlu_replay_calls.specs.Elements.{EachStands}
use Rattle.mlu_replay_calls.proofs.operands.read_list.Given as goal

abbrev pub invariant-loop-piece : goal.invariant-loop-piece
invariant-loop-piece g l = record {
  can_next : (goal.iterator-loop-piece g).can_next l.piece-iterator;
  is_finite : (goal.iterator-loop-piece g).is_finite l.piece-iterator;
  each : EachStands g.T.Element.stands (map (λ x. x.now) l.yielded) l.list.items;
}
