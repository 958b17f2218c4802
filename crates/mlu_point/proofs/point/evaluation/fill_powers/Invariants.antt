use Rattle.std.proofs.Common.{◌≡◌, ◌^◌, length}
use Rattle.mlu_ring.specs.Tables.{power}
use Rattle.mlu_point.proofs.Expansion.{Holds}
use Rattle.mlu_point.proofs.point.evaluation.fill_powers.Given as goal

abbrev pub invariant-loop-k : goal.invariant-loop-k
invariant-loop-k g l =
    let ring = g.F.Additive.ring in
    record {
      next : l.power ≡ power ring l.fn.y (2 ^ l.k);
      held : Holds ring l.out l.fn.y (length l.out) l.k;
    }
