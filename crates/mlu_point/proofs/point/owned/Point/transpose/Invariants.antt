use Rattle.std.proofs.Common.{◌≡◌, ◌*◌, length}
use Rattle.std.specs.Vec.{vec_capacity, vec_len}
use Rattle.mlu_point.proofs.Transposes.{joined, row_of}
use Rattle.mlu_point.proofs.point.owned.Point.transpose.Given as goal

abbrev pub invariant-loop-j : goal.invariant-loop-j
invariant-loop-j g l =
    record {
      rows : l.values.items ≡ joined (row_of g.F.Additive.ring l.points l.rev_order l.k) l.j;
      size : length l.values.items ≡ l.j * length l.points;
      len : vec_len l.values ≡ l.j * length l.points;
      capacity : vec_capacity l.values ≡ l.k * length l.points;
    }
