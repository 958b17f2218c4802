use Rattle.std.proofs.Common.{◌<◌, length, subst, sym}
use Rattle.mlu_eq.proofs.Halves.{packed_length}
use Rattle.mlu_eq.proofs.Lengths.{positive_of_lanes}
use Rattle.mlu_eq.proofs.half.EqMaybePacked.show_not_empty.Goals as goal

pub returns-in-Packed : goal.returns-in-Packed
returns-in-Packed g c =
    let lanes = g.EF.ExtensionPacking.PackedFieldExtension.ext_lanes in
    let n = g.F.Packing.PackedValue.WIDTH in
    let long = g.met.EF.ExtensionPacking.PackedFieldExtension.lanes_are.length-parts in
    subst (λ k. 0 < k) (sym (packed_length lanes c.args.self.now c.self.inside.weights c.self.view_is n long c.in-Packed.weights c.as_slice-in-Packed.result.now c.in-Packed.is c.as_slice-in-Packed.ensures.value))
    (positive_of_lanes (length c.as_slice-in-Packed.result.now) n g.F.Packing.PackedValue.LOG_WIDTH c.as_slice-in-Packed.type_inv.0 c.as_slice-in-Packed.ensures.power g.met.F.Packing.PackedValue.width_is)
