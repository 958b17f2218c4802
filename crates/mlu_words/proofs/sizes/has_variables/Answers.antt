use Rattle.std.proofs.Common.{◌≡◌, ◌^◌, ◌<◌, subst, arith}
use Rattle.mlu_ring.proofs.PowersOfTwo.{exponent_fits}
use Rattle.mlu_words.proofs.sizes.has_variables.Goals as goal

pub returns-else-variables : goal.returns-else-variables
returns-else-variables c =
    let small : c.args.entries ≡ 2 ^ c.args.variables → c.args.variables < 64 = λ e. exponent_fits c.args.variables (subst (λ m. m < 2 ^ 64) e c.ranges.entries.fits) in
    grind (arith, small)
