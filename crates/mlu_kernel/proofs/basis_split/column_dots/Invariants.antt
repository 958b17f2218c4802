use Rattle.std.proofs.Common.{◌≡◌, length, map, take}
use Rattle.std.specs.List.{All}
use Rattle.mlu_kernel.proofs.basis_split.column_dots.Given as goal

abbrev pub invariant-loop-k : goal.invariant-loop-k
invariant-loop-k g l = record {
  long : length l.columns ≡ 8;
  each : All (λ c. length c.now ≡ length l.row) l.columns;
  so_far : map (λ c. c.now) (take l.k l.columns) ≡ map (take (length l.row)) (take l.k l.split);
}
