-- Four places more are written.
use Rattle.std.proofs.Common.{◌≡◌, ◌+◌, ◌*◌, ◌%◌, ◌^◌, ap, ◌∙◌, arith}
use Rattle.mlu_ring.proofs.Filled.{filled_by_four}
use Rattle.mlu_lanes.specs.BabyBear.{reduced}
use Rattle.mlu_lanes.specs.declared.baby_bear.TheConstants.{MODULUS}
use Rattle.mlu_lanes.proofs.PlaceSums.{row_at_times}
use Rattle.mlu_lanes.proofs.Prepared.{prepared_once}
use Rattle.mlu_lanes.proofs.baby_bear.ring.BabyBearPrimeCharacteristicRing.rows_times_column.Goals as goal

pub loop-g-preserved : goal.loop-g-preserved
loop-g-preserved g c =
    let l = c.args.l.now in
    let column = c.args.column.now in
    let n = 4 * c.loop-g.g in
    let sum = row_at_times l.0.now l.1.now l.2.now l.3.now column.0 column.1 column.2 column.3 in
    let factors = c.prepared-factors.ensures in
    let next : 4 * (c.loop-g.g + 1) ≡ n + 4 = omega arith in
    record {
      long = c.put.ensures.long ∙ c.loop-g.invariant.long;
      filled = filled_by_four (reduced 0) c.loop-g.out c.put.new.out sum n (4 * (c.loop-g.g + 1)) next c.loop-g.invariant.filled c.put.ensures.before
          (λ j h. prepared_once _ _ _ _ column.0 column.1 column.2 column.3 _ _ _ _ _ factors.first factors.second factors.third factors.fourth
          (ap (λ s. s * 2 ^ 32 % MODULUS) (c.put.ensures.written j h) ∙ c.prepared_sums_at-sums.ensures.value j h));
    }
