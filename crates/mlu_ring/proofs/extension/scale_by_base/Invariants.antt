use Rattle.std.proofs.Common.{◌≡◌, ℕ, ◌<◌, get_or}
use Rattle.mlu_ring.specs.Lanes.{splat_of}
use Rattle.mlu_ring.proofs.extension.scale_by_base.Given as goal

abbrev pub invariant-loop-k : goal.invariant-loop-k
invariant-loop-k g l =
    let packing = g.F.Packing.Additive.ring in
    let packed_coefficients = g.EF.ExtensionPacking.PackedFieldExtension.packed_coefficients in
    (c : ℕ) → c < l.k → get_or (packed_coefficients l.scaled) c packing.zero ≡ packing.product (get_or (packed_coefficients l.packed) c packing.zero) (splat_of g.F.Packing.PackedValue.WIDTH g.F.Packing.PackedValue.of_lanes l.factor)
