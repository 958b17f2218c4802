use Rattle.std.proofs.Common.{◌≡◌, length}
use Rattle.std.specs.List.{All}
use Rattle.mlu_sweep.proofs.kernels.dots_of_rows.Given as goal

abbrev pub invariant-loop-k : goal.invariant-loop-k
invariant-loop-k g l = record {
  long : length l.cs ≡ 9;
  each : All (λ c. length c.now ≡ length l.right) l.cs;
}
