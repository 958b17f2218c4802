use Rattle.std.proofs.Common.{◌≡◌, ◌*◌, ◌∙◌, map, set, length, refl, ap, sym, arith}
use Rattle.std.proofs.lemmas.List.{length-map}
use Rattle.mlu_ring.specs.Lanes.{logical}
use Rattle.mlu_ring.proofs.Logical.{length-logical}
use Rattle.mlu_ring.proofs.Rows.{row-ends, length-row_at}
use Rattle.mlu_ring.proofs.Zips.{zip_whole}
use Rattle.mlu_kernel.proofs.Blocks.{block-embedded}
use Rattle.mlu_kernel.proofs.PlusRows.{row_more, zip2-row}
use Rattle.mlu_kernel.proofs.one_row.add_row_times.Goals as goal

pub row_of_width-requires : goal.row_of_width-requires
row_of_width-requires g c = row-ends _ _ _ _ _ (omega arith) c.requires c.WIDTH.ensures

pub load-block-requires : goal.load-block-requires
load-block-requires g c = ap length c.row_of_width.ensures ∙ length-row_at _ _ _ (row-ends _ (length c.args.out.now) _ _ _ (omega arith) c.requires c.WIDTH.ensures) ∙ c.WIDTH.ensures

pub loop-z-preserved : goal.loop-z-preserved
loop-z-preserved g c =
    let ring = g.EF.Additive.ring in
    let embed = g.EF.Algebra.embed in
    let n = g.F.Packing.PackedValue.WIDTH in
    let packed = g.EF.ExtensionPacking.Additive.ring in
    let ext = g.EF.ExtensionPacking.PackedFieldExtension in
    let met = g.met.EF.ExtensionPacking.PackedFieldExtension in
    let many = length-logical ext.ext_lanes n met.lanes_are.length-parts c.args.out.now in
    let loaded = g.F.Packing.PackedValue.lanes c.load-block.result in
    let block = block-embedded embed c.args.row.now c.loop-z.z c.WIDTH.result n c.row_of_width.result.now loaded (map embed loaded) refl c.load-block.ensures c.row_of_width.ensures c.WIDTH.ensures in
    ap (λ p. logical ext.ext_lanes (set c.loop-z.out c.loop-z.z p)) (g.met.EF.ExtensionPacking.Additive.adds c.index-out-z.result c.scale_packing.result c.add.result c.add.ensures)
    ∙ row_more packed ring g.met.EF.Additive.laws ext.ext_lanes ext.of_ext_lanes n met.lanes_are met.lane_by_lane
    c.loop-z.out (logical ext.ext_lanes c.args.out.now) (map embed c.args.row.now) c.loop-z.z c.args.weight c.index-out-z.result c.scale_packing.result
    (omega arith) (many ∙ ap (λ k. k * n) (sym c.loop-z.auto.out)) (many ∙ sym (length-map c.args.row.now embed ∙ c.requires))
    c.loop-z.invariant c.index-out-z.is (c.scale_packing.ensures ∙ ap (map (ring.product c.args.weight)) block)

pub returns : goal.returns
returns g c =
    let ring = g.EF.Additive.ring in
    let n = g.F.Packing.PackedValue.WIDTH in
    let ext = g.EF.ExtensionPacking.PackedFieldExtension in
    let met = g.met.EF.ExtensionPacking.PackedFieldExtension in
    let old = logical ext.ext_lanes c.args.out.now in
    let e = map g.EF.Algebra.embed c.args.row.now in
    let many = length-logical ext.ext_lanes n met.lanes_are.length-parts c.args.out.now in
    let long = many ∙ sym (length-map c.args.row.now g.EF.Algebra.embed ∙ c.requires) in
    let end : c.loop-z.z ≡ length c.args.out.now = omega arith in
    c.loop-z.invariant
    ∙ zip_whole ring.sum old (map (ring.product c.args.weight) e) (c.loop-z.z * n) (many ∙ ap (λ k. k * n) (sym end)) (long ∙ sym (length-map e (ring.product c.args.weight)))
    ∙ zip2-row ring g.met.EF.Additive.laws old e c.args.weight long
