use Rattle.std.proofs.Common.{◌≡◌, ℕ, ◌<◌, map, length, get_or}
use Rattle.mlu_ring.specs.Lanes.{logical}
use Rattle.mlu_ring.specs.Matrices.{column, row_at}
use Rattle.mlu_ring.specs.Tables.{weights}
use Rattle.mlu_point.proofs.eq_batch.lanes.pack_shares.Given as goal

abbrev pub invariant-loop-i : goal.invariant-loop-i
invariant-loop-i g l =
    let ring = g.EF.Additive.ring in
    record {
      long : length l.shares ≡ length l.fn.shares;
      buffer : length l.lanes ≡ length l.fn.lanes;
      packed : (k : ℕ) → k < l.i → logical g.EF.ExtensionPacking.PackedFieldExtension.ext_lanes (row_at 4 l.shares k)
          ≡ map (λ w. ring.product (get_or l.scalars k ring.zero) w) (weights ring (column ring (map g.E.EqualityEvaluator.image l.evals.values.now) (length l.scalars) k));
    }
