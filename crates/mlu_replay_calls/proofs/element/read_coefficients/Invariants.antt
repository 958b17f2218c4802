use Rattle.std.proofs.Common.{◌≡◌, ◌≤◌, length, map, take}
use Rattle.mlu_replay_calls.specs.Elements.{EachStands, IsResidue}
use Rattle.mlu_replay_calls.proofs.element.read_coefficients.Given as goal

abbrev pub invariant-loop-piece : goal.invariant-loop-piece
invariant-loop-piece g l = record {
  can_next : (goal.iterator-loop-piece g).can_next l.piece-iterator;
  is_finite : (goal.iterator-loop-piece g).is_finite l.piece-iterator;
  long : length l.coefficients ≡ g.row.D;
  within : l.count ≤ g.row.D;
  counted : l.count ≡ length l.yielded;
  each : EachStands IsResidue (map (λ x. x.now) l.yielded) (take l.count l.coefficients);
}
