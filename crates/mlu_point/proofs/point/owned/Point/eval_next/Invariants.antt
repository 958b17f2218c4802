use Rattle.std.proofs.Common.{◌≡◌}
use Rattle.mlu_point.specs.Steps.{carry_of, done_of, last_of}
use Rattle.mlu_point.proofs.Steps.{tail}
use Rattle.mlu_point.proofs.point.owned.Point.eval_next.Given as goal

abbrev pub invariant-loop-k : goal.invariant-loop-k
invariant-loop-k g l =
    let ring = g.F.Additive.ring in
    record {
      carry : l.carry ≡ carry_of ring (tail l.point l.k) (tail l.row l.k);
      done : l.done ≡ done_of ring (tail l.point l.k) (tail l.row l.k);
      last : l.last ≡ last_of ring (tail l.point l.k) (tail l.row l.k);
    }
