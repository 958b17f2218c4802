use Rattle.std.proofs.Common.{◌≡◌, length, map, take}
use Rattle.std.specs.List.{All}
use Rattle.mlu_kernel.specs.Columns.{columns}
use Rattle.mlu_kernel.proofs.basis_split.split_coefficients.Given as goal

abbrev pub invariant-loop-k : goal.invariant-loop-k
invariant-loop-k g l = record {
  long : length l.split ≡ g.row.D;
  each : All (λ c. length c ≡ 128) l.split;
  split : map (take (length l.weights)) (take l.k l.split) ≡ columns g.EF.ExtensionPacking.PackedFieldExtension.packed_coefficients g.F.Packing.Additive.ring.zero l.weights l.k;
}
