use Rattle.std.proofs.Common.{◌≡◌, length, take}
use Rattle.mlu_ring.specs.Columns.{column_of}
use Rattle.mlu_kernel.proofs.basis_split.coefficient_column.Given as goal

abbrev pub invariant-loop-i : goal.invariant-loop-i
invariant-loop-i g l = record {
  long : length l.coefficients ≡ 128;
  column : take l.i l.coefficients ≡ column_of g.F.Packing.Additive.ring.zero g.EF.ExtensionPacking.PackedFieldExtension.packed_coefficients (take l.i l.weights) l.k;
}
