use Rattle.std.proofs.Common.{◌≡◌, ◌++◌, take, drop}
use Rattle.std.specs.Simd.Lanes.{zip2}
use Rattle.mlu_kernel.proofs.FourRows.{products_of}
use Rattle.mlu_kernel.proofs.four_rows.plus_four_products.Given as goal

abbrev pub invariant-loop-k : goal.invariant-loop-k
invariant-loop-k g l =
    let packing = g.F.Packing.Additive.ring in
    let packed = g.EF.ExtensionPacking.PackedFieldExtension.packed_coefficients in
    let old = packed l.initial.sum in
    let products = products_of g.F.Additive.ring packing g.F.Packing.PackedValue.WIDTH g.F.Packing.PackedValue.of_lanes g.EF.ExtensionField.DIMENSION g.EF.ExtensionField.coefficients l.weights l.blocks in
    packed l.sum ≡ zip2 packing.sum (take l.k old) (take l.k products) ++ drop l.k old
