use Rattle.std.proofs.Common.{◌∙◌, ap}
use Rattle.std.specs.Simd.Lanes.{zip2}
use Rattle.mlu_point.proofs.Outputs.{left-added, left-written}
use Rattle.mlu_point.proofs.eq_batch.lanes.write_or_add_group.Goals.{then-this-ne0, else-this-ne0}
use Rattle.mlu_point.proofs.eq_batch.lanes.write_or_add_group.Goals as goal

pub returns : goal.returns
returns g c =
    let ring = g.EF.Additive.ring in
    let packing = g.EF.ExtensionPacking.PackedFieldExtension in
    let value = c.args.value in
    elim c.if-this-ne0.branch [
      | then-this-ne0 w ↦
          left-added ring g.row.INITIALIZED c.args.out.now c.store_ext.new.out (packing.ext_lanes value) w.if-this-ne0.true
          (c.store_ext.ensures
          ∙ ap packing.ext_lanes (w.value-is ∙ g.met.EF.ExtensionPacking.Additive.adds w.from_ext_slice.result value w.add-value.result w.add-value.ensures)
          ∙ g.met.EF.ExtensionPacking.PackedFieldExtension.lane_by_lane.sum w.from_ext_slice.result value
          ∙ ap (λ l. zip2 ring.sum l (packing.ext_lanes value)) w.from_ext_slice.ensures)
      | else-this-ne0 w ↦
          left-written ring g.row.INITIALIZED c.args.out.now c.store_ext.new.out (packing.ext_lanes value) w.if-this-ne0.false (c.store_ext.ensures ∙ ap packing.ext_lanes w.value-is)
    ]
