use Rattle.std.proofs.Common.{◌*◌, [], ◌∙◌, map, length, ap, sym, arith}
use Rattle.std.proofs.lemmas.List.{take_all}
use Rattle.mlu_ring.specs.Lanes.{logical}
use Rattle.mlu_ring.specs.Matrices.{row_at}
use Rattle.mlu_ring.proofs.Logical.{length-logical}
use Rattle.mlu_ring.proofs.Rows.{map-row_of}
use Rattle.mlu_kernel.specs.Kernels.{plus_rows}
use Rattle.mlu_kernel.proofs.PlusRows.{plus_rows-none, rows_more}
use Rattle.mlu_kernel.proofs.prefix.compress_prefix_to_packed_packed_kernel_eager.Goals as goal

pub loop-i-init : goal.loop-i-init
loop-i-init g c =
    let old = logical g.EF.ExtensionPacking.PackedFieldExtension.ext_lanes c.args.out.now in
    sym (plus_rows-none g.EF.Additive.ring g.met.EF.Additive.laws old [] (map g.EF.Algebra.embed c.args.chunk.now) (omega arith))

pub loop-i-preserved : goal.loop-i-preserved
loop-i-preserved g c =
    let ring = g.EF.Additive.ring in
    let embed = g.EF.Algebra.embed in
    let n = g.F.Packing.PackedValue.WIDTH in
    let ext = g.EF.ExtensionPacking.PackedFieldExtension in
    let met = g.met.EF.ExtensionPacking.PackedFieldExtension in
    let between = logical ext.ext_lanes c.loop-i.out in
    let r = n * (length c.args.out.now * n) in
    let size = ap (λ k. n * k) (sym (length-logical ext.ext_lanes n met.lanes_are.length-parts c.args.out.now)) in
    let rows = ap (map embed) c.row_of.ensures.row ∙ map-row_of embed c.args.chunk.now (length c.args.eq1.now) r c.loop-i.i c.loop-i-test.true c.requires in
    c.add_rows_by_lane.ensures
    ∙ ap (plus_rows ring between (ext.ext_lanes c.scale.result)) rows
    ∙ ap (λ p. plus_rows ring between (ext.ext_lanes p) (row_at r (map embed c.args.chunk.now) c.loop-i.i)) c.scale.ensures
    ∙ rows_more g.EF.ExtensionPacking.Additive.ring ring g.met.EF.Additive.laws ext.ext_lanes ext.of_ext_lanes n met.lanes_are met.lane_by_lane
    c.args.eq1.now (logical ext.ext_lanes c.args.out.now) (map embed c.args.chunk.now) between c.loop-i.i r c.args.w0 c.index-eq1-i.result (g.EF.ExtensionPacking.Algebra-1.embed c.args.w0)
    c.loop-i-test.true size c.index-eq1-i.is (met.embeds_element c.args.w0) c.loop-i.invariant

pub returns : goal.returns
returns g c =
    let ring = g.EF.Additive.ring in
    let lanes = g.EF.ExtensionPacking.PackedFieldExtension.ext_lanes in
    c.loop-i.invariant
    ∙ ap (λ ps. plus_rows ring (logical lanes c.args.out.now) (map (ring.product c.args.w0) (logical lanes ps)) (map g.EF.Algebra.embed c.args.chunk.now)) (take_all c.loop-i.i c.args.eq1.now c.loop-i-test.false)
