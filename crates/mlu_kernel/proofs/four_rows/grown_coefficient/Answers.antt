use Rattle.std.proofs.Common.{◌∙◌, map, get_or, ap}
use Rattle.mlu_ring.specs.Lanes.{splat_of}
use Rattle.mlu_ring.specs.Tables.{pair}
use Rattle.mlu_kernel.proofs.FourRows.{map-four}
use Rattle.mlu_kernel.proofs.four_rows.grown_coefficient.Goals as goal

pub returns : goal.returns
returns g c =
    let packing = g.F.Packing.Additive.ring in
    let splat = splat_of g.F.Packing.PackedValue.WIDTH g.F.Packing.PackedValue.of_lanes in
    let zero = g.F.Additive.ring.zero in
    let read = map-four (λ w. get_or (g.EF.ExtensionField.coefficients w) c.args.k zero) c.args.weights.now _ _ _ _ _ _ _ _ c.requires.weights
    c.index-weights-0.is c.index-weights-1.is c.index-weights-2.is c.index-weights-3.is
    (c.coefficient.ensures zero) (c.coefficient-2.ensures zero) (c.coefficient-3.ensures zero) (c.coefficient-4.ensures zero) in
    let products = c.mixed_dot4.ensures ∙ ap (λ cs. pair packing c.args.blocks.now (map splat cs)) read in
    g.met.F.Packing.Additive.adds _ _ _ c.add.ensures ∙ ap (packing.sum c.args.sum) products
