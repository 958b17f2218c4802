use Rattle.std.proofs.Common.{◌≡◌, ◌+◌, ◌++◌, map, take, get_or}
use Rattle.std.specs.Vec.{vec_capacity, vec_len}
use Rattle.mlu_point.proofs.point.evaluation.push_coordinates.Given as goal

abbrev pub invariant-loop-point : goal.invariant-loop-point
invariant-loop-point g l = record {
  items : l.values.items ≡ l.initial.values.items ++ map (λ p. get_or p l.place g.F.Additive.ring.zero) (take l.point-index l.points);
  len : vec_len l.values ≡ vec_len l.initial.values + l.point-index;
  capacity : vec_capacity l.values ≡ vec_capacity l.initial.values;
}
