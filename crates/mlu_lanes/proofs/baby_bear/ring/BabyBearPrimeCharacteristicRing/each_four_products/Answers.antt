-- Four places more are written.
use Rattle.std.proofs.Common.{◌≡◌, ◌+◌, ◌*◌, ◌∙◌, arith}
use Rattle.mlu_ring.proofs.Filled.{filled_by_four}
use Rattle.mlu_lanes.specs.BabyBear.{reduced}
use Rattle.mlu_lanes.proofs.PlaceSums.{sum_at, sum_at_reduced}
use Rattle.mlu_lanes.proofs.baby_bear.ring.BabyBearPrimeCharacteristicRing.each_four_products.Goals as goal

pub loop-g-preserved : goal.loop-g-preserved
loop-g-preserved g c =
    let l = c.args.l.now in
    let r = c.args.r.now in
    let n = 4 * c.loop-g.g in
    let sum = sum_at l.0.now l.1.now l.2.now l.3.now r.0.now r.1.now r.2.now r.3.now in
    let reduced_at = sum_at_reduced l.0.now l.1.now l.2.now l.3.now r.0.now r.1.now r.2.now r.3.now in
    let next : 4 * (c.loop-g.g + 1) ≡ n + 4 = omega arith in
    record {
      long = c.put.ensures.long ∙ c.loop-g.invariant.long;
      filled = filled_by_four (reduced 0) c.loop-g.out c.put.new.out sum n (4 * (c.loop-g.g + 1)) next c.loop-g.invariant.filled c.put.ensures.before
          (λ j h. reduced_at (n + j) _ (c.put.ensures.written j h ∙ c.sums_at-sums.ensures j h));
    }
