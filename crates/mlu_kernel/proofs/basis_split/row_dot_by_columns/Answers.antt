use Rattle.std.proofs.Common.{◌≡◌, ◌∙◌, List, length, map, take, ap, sym}
use Rattle.mlu_ring.specs.Lanes.{logical}
use Rattle.mlu_ring.specs.Tables.{pair}
use Rattle.mlu_kernel.proofs.BasisDots.{total-dots_of_columns}
use Rattle.mlu_ring.proofs.PackedCoefficients.{packed_extension}
use Rattle.mlu_kernel.proofs.basis_split.row_dot_by_columns.Goals as goal

pub returns : goal.returns
returns g c =
    let ext = g.EF.ExtensionPacking.PackedFieldExtension in
    let met = g.met.EF.ExtensionPacking.PackedFieldExtension in
    let ring = g.F.Packing.Additive.ring in
    let weights = c.args.weights.now in
    let n = length c.args.weights.now in
    let bs = c.load_row.new.blocks in
    let many : length c.load_row.new.blocks ≡ length c.args.weights.now = c.load_row.auto.blocks ∙ c.requires.places in
    let laws = packed_extension g.met.F.Packing.PackedValue.lanes_are g.met.F.Lanewise.lane_by_lane g.met.F.Packing.Additive.laws
    g.met.EF.Additive.laws g.met.EF.ExtensionField.coefficients_are g.met.EF.ExtensionField.coefficients_sum g.met.EF.ExtensionField.coefficients_scale
    g.met.EF.ExtensionPacking.Additive.laws met.lanes_are met.lane_by_lane met.embeds_packing met.coefficients_are met.transposed in
    let dots = λ (row : List g.row.F-Packing.Denot). map (λ v. pair ring v row) in
    total-dots_of_columns laws weights bs c.joined.result (sym many)
    (c.joined.ensures
    ∙ c.column_dots-sums.ensures
    ∙ ap (λ k. dots bs (map (take k) c.args.split.now)) many
    ∙ ap (dots bs) c.requires.split.begin)
    ∙ ap (λ l. pair g.EF.Additive.ring (logical ext.ext_lanes weights) (map g.EF.Algebra.embed l)) (c.load_row.ensures ∙ c.row_of.ensures.exact _ c.requires.entries)
