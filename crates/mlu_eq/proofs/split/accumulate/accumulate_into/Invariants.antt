use Rattle.std.proofs.Common.{◌≡◌}
use Rattle.mlu_eq.proofs.Accumulations.{rows_added}
use Rattle.mlu_eq.proofs.split.accumulate.accumulate_into.Given as goal

abbrev pub invariant-loop-j : goal.invariant-loop-j
invariant-loop-j g l = l.out ≡ rows_added g.EF.Additive.ring l.eq0 l.eq1.weights l.initial.out l.scale l.j
