use Rattle.std.proofs.Common.{arith}
use Rattle.mlu_ring.proofs.PowersOfTwo.{is_power_of_two-power}
use Rattle.multilinear_util.proofs.poly.Poly.rand.Goals as goal

pub invariant_of-result : goal.invariant_of-result
invariant_of-result g c =
    is_power_of_two-power _ c.args.variables (omega (arith, c.loop.evals.ok.0, c.loop.invariant.len, c.loop-test.false, c.loop.auto.counter-end, c.table_length-num_evals.ensures))
