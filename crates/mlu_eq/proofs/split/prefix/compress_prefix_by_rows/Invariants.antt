use Rattle.std.proofs.Common.{◌≡◌, map, take}
use Rattle.mlu_kernel.specs.Kernels.{plus_rows}
use Rattle.mlu_eq.specs.Split.{contents}
use Rattle.mlu_eq.proofs.split.prefix.compress_prefix_by_rows.Given as goal

abbrev pub invariant-loop-j : goal.invariant-loop-j
invariant-loop-j g l =
    let ring = g.EF.Additive.ring in
    let w = l.eq1.weights in
    l.out ≡ plus_rows ring l.initial.out (contents ring (take l.j l.eq0) w) (map g.EF.Algebra.embed l.entries)
