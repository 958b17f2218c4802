use Rattle.std.proofs.Common.{◌≡◌, ◌*◌, map, length, take}
use Rattle.mlu_ring.specs.Lanes.{logical}
use Rattle.mlu_kernel.specs.Kernels.{plus_rows}
use Rattle.mlu_eq.specs.Split.{contents}
use Rattle.mlu_eq.proofs.split.runs.compress_prefix_in_runs.Given as goal

abbrev pub invariant-loop-i : goal.invariant-loop-i
invariant-loop-i g l =
    let ring = g.EF.Additive.ring in
    let lanes = g.P.PrefixCompression.lanes in
    let w = l.eq1.weights in
    logical lanes l.out ≡ plus_rows ring (logical lanes l.initial.out) (take (l.i * l.run_length * length w) (g.P.PrefixCompression.moved (contents ring l.eq0 w))) (map g.EF.Algebra.embed l.entries)
