use Rattle.std.proofs.Common.{rules}
use Rattle.mlu_ring.proofs.PowersOfTwo.{power_of_test}
use Rattle.mlu_ring.proofs.logarithm.log2_strict_usize.Goals as goal

pub returns : goal.returns
returns c = power_of_test c.args.n (search rules) c.requires
