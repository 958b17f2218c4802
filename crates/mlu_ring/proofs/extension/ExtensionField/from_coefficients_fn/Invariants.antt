use Rattle.std.proofs.Common.{get_or}
use Rattle.mlu_ring.specs.Calls.{CalledInTurn}
use Rattle.mlu_ring.proofs.extension.ExtensionField.from_coefficients_fn.Given as goal

abbrev pub invariant-loop-k : goal.invariant-loop-k
invariant-loop-k g l = CalledInTurn (λ s k c t. goal.G-step g s k c t) l.k (λ k. get_or (g.Self.ExtensionField.coefficients l.element) k g.F.Additive.ring.zero) l.initial.f l.f
