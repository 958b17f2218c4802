use Rattle.std.proofs.Common.{◌≡◌, ℕ, ◌<◌, get_or}
use Rattle.mlu_ring.specs.Lanes.{splat_of}
use Rattle.mlu_ring.proofs.extension.scale_packing.Given as goal

abbrev pub invariant-loop-k : goal.invariant-loop-k
invariant-loop-k g l =
    let packing = g.F.Packing.Additive.ring in
    let splat = splat_of g.F.Packing.PackedValue.WIDTH g.F.Packing.PackedValue.of_lanes in
    (c : ℕ) → c < l.k → get_or (g.EF.ExtensionPacking.PackedFieldExtension.packed_coefficients l.scaled) c packing.zero
    ≡ packing.product l.factor (splat (get_or (g.EF.ExtensionField.coefficients l.element) c g.F.Additive.ring.zero))
