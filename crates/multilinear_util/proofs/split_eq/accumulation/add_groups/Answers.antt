use Rattle.std.proofs.Common.{◌≡◌, ◌*◌, ◌∙◌, length, ap, sym, arith}
use Rattle.std.specs.Simd.Lanes.{zip2}
use Rattle.mlu_ring.specs.Lanes.{logical}
use Rattle.mlu_ring.proofs.Logical.{length-logical, zip_block_more}
use Rattle.mlu_ring.proofs.Zips.{zip_whole}
use Rattle.multilinear_util.proofs.split_eq.accumulation.add_groups.Goals as goal

pub loop-i-preserved : goal.loop-i-preserved
loop-i-preserved g c =
    let ring = g.EF.Additive.ring in
    let ext = g.EF.ExtensionPacking.PackedFieldExtension in
    let met = g.met.EF.ExtensionPacking.PackedFieldExtension in
    let n = g.F.Packing.PackedValue.WIDTH in
    let values = c.args.values.now in
    let old = logical ext.ext_lanes c.args.out.now in
    let many = length-logical ext.ext_lanes n met.lanes_are.length-parts c.args.out.now in
    let group = c.from_ext_slice-group.result in
    let lanes = c.from_ext_slice-group.ensures ∙ c.row_of.ensures.exact n (c.requires ∙ ap (λ k. k * n) (sym c.loop-i.auto.out)) in
    let added = g.met.EF.ExtensionPacking.Additive.adds c.index-out-i.result group c.add.result c.add.ensures in
    zip_block_more ext.ext_lanes n met.lanes_are.length-parts ring.sum c.loop-i.out old values c.loop-i.i c.index-out-i.result c.add.result
    (omega arith) (many ∙ ap (λ k. k * n) (sym c.loop-i.auto.out)) (many ∙ sym c.requires) c.loop-i.invariant c.index-out-i.is
    (ap ext.ext_lanes added ∙ met.lane_by_lane.sum c.index-out-i.result group ∙ ap (λ vs. zip2 ring.sum (ext.ext_lanes c.index-out-i.result) vs) lanes)

pub returns : goal.returns
returns g c =
    let n = g.F.Packing.PackedValue.WIDTH in
    let ext = g.EF.ExtensionPacking.PackedFieldExtension in
    let old = logical ext.ext_lanes c.args.out.now in
    let many = length-logical ext.ext_lanes n g.met.EF.ExtensionPacking.PackedFieldExtension.lanes_are.length-parts c.args.out.now in
    let end : c.loop-i.i ≡ length c.args.out.now = omega arith in
    c.loop-i.invariant
    ∙ zip_whole g.EF.Additive.ring.sum old c.args.values.now (c.loop-i.i * n) (many ∙ ap (λ k. k * n) (sym end)) (many ∙ sym c.requires)
