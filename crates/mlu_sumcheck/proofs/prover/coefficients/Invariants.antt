use Rattle.std.proofs.Common.{◌≡◌}
use Rattle.mlu_ring.specs.Sums.{sum_below}
use Rattle.mlu_sumcheck.proofs.Rounds.{low_term, high_term, rise_term}
use Rattle.mlu_sumcheck.proofs.prover.coefficients.Given as goal

abbrev pub invariant-loop-i : goal.invariant-loop-i
invariant-loop-i g l =
    let ring = g.R.Additive.ring in
    record {
      low : l.at_zero ≡ sum_below ring l.i (low_term ring l.weights l.poly);
      high : l.at_one ≡ sum_below ring l.i (high_term ring l.half l.weights l.poly);
      steps : l.quadratic ≡ sum_below ring l.i (rise_term ring l.half l.weights l.poly);
    }
