use Rattle.std.proofs.Common.{◌≡◌, map}
use Rattle.std.specs.Prelude.{if◌then◌else◌, ◌==◌}
use Rattle.std.specs.List.{range_with_len}
use Rattle.std.specs.Vec.{vec_capacity, vec_len}
use Rattle.mlu_ring.specs.Tables.{bit}
use Rattle.mlu_point.proofs.point.owned.Point.hypercube.Given as goal

abbrev pub invariant-loop-i : goal.invariant-loop-i
invariant-loop-i g l = record {
  items : l.coords.items ≡ map (λ i. if bit l.n i l.value == 1 then g.F.Additive.ring.one else g.F.Additive.ring.zero) (range_with_len 0 l.i);
  len : vec_len l.coords ≡ l.i;
  capacity : vec_capacity l.coords ≡ l.n;
}
