use Rattle.std.proofs.Common.{arith}
use Rattle.std.proofs.lemmas.Bool.Decides.{nat_tests}
use Rattle.mlu_kernel.proofs.small.is_small.Goals as goal

pub returns : goal.returns
returns g c = let e = c.size_of_val.ensures in grind (arith, nat_tests)
