use Rattle.std.proofs.Common.{◌≡◌, map, take}
use Rattle.mlu_kernel.specs.Kernels.{double_sum}
use Rattle.mlu_eq.proofs.split.dot.dot_of_rows_by_groups.Given as goal

abbrev pub invariant-loop-j : goal.invariant-loop-j
invariant-loop-j g l = l.sum ≡ double_sum g.EF.Additive.ring (take l.j l.eq0) l.weights (map g.EF.Algebra.embed l.entries)
