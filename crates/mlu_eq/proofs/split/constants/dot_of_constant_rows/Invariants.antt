use Rattle.std.proofs.Common.{◌≡◌, map, take}
use Rattle.mlu_kernel.specs.Kernels.{double_sum}
use Rattle.mlu_eq.specs.Split.{constants}
use Rattle.mlu_eq.proofs.split.constants.dot_of_constant_rows.Given as goal

abbrev pub invariant-loop-j : goal.invariant-loop-j
invariant-loop-j g l = l.sum ≡ double_sum g.EF.Additive.ring (take l.j l.eq0) (constants g.EF.ExtensionField.of_coefficients l.column) (map g.EF.Algebra.embed l.entries)
