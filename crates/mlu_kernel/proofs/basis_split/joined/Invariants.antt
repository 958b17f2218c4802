use Rattle.std.proofs.Common.{◌≡◌, take}
use Rattle.mlu_kernel.proofs.basis_split.joined.Given as goal

abbrev pub invariant-loop-k : goal.invariant-loop-k
invariant-loop-k g l = take l.k (g.EF.ExtensionPacking.PackedFieldExtension.packed_coefficients l.packed) ≡ take l.k l.coefficients
