use Rattle.std.proofs.Common.{◌<◌, length, rules, sym, subst, arith}
use Rattle.mlu_ring.proofs.CallsInTurn.{same_state}
use Rattle.mlu_element_tests.proofs.extensions.counted.of_list.Goals as goal

pub from_coefficients_fn-requires : goal.from_coefficients_fn-requires
from_coefficients_fn-requires g c = λ at k t below calls.
    let inside : k < length c.args.coefficients.now = omega (arith, below, c.requires) in
    subst (λ s. k < length s.0.now) (sym (same_state _ (λ s j a u made. search rules) k at _ t calls)) inside
