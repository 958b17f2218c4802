use Rattle.std.proofs.Common.{◌≡◌, map, take}
use Rattle.mlu_kernel.specs.Kernels.{plus_rows}
use Rattle.mlu_eq.proofs.split.prefix.add_scalar_rows.Given as goal

abbrev pub invariant-loop-i : goal.invariant-loop-i
invariant-loop-i g l =
    let ring = g.EF.Additive.ring in
    l.out ≡ plus_rows ring l.initial.out (take l.i (map (ring.product l.fn.factor) l.weights)) (map g.EF.Algebra.embed l.rows)
