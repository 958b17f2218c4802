use Rattle.std.proofs.Common.{◌≡◌, ◌<◌, ◌*◌, ◌∙◌, List, map, length, ap, sym, arith}
use Rattle.std.proofs.lemmas.List.{length-map}
use Rattle.mlu_ring.specs.Lanes.{logical}
use Rattle.mlu_ring.specs.Matrices.{row_at}
use Rattle.mlu_ring.specs.Tables.{front}
use Rattle.mlu_ring.proofs.Logical.{length-logical}
use Rattle.mlu_ring.proofs.Zips.{zip_whole}
use Rattle.mlu_kernel.proofs.PlusRows.{plus_rows-front}
use Rattle.mlu_kernel.proofs.FourRows.{four_rows_more, length-front_rows}
use Rattle.mlu_kernel.proofs.four_rows.add_four_rows.Goals as goal

pub loop-z-preserved : goal.loop-z-preserved
loop-z-preserved g c =
    let n = g.F.Packing.PackedValue.WIDTH in
    let ext = g.EF.ExtensionPacking.PackedFieldExtension in
    let ext_parts = g.met.EF.ExtensionPacking.PackedFieldExtension.lanes_are.length-parts in
    let z = c.loop-z.z in
    let s = length c.args.out.now * n in
    let within : c.loop-z.z < length c.loop-z.out = omega arith in
    let block = λ (row : List g.row.F.Denot). row_at n row z in
    four_rows_more g.EF.Additive.ring g.met.EF.Additive.laws ext.ext_lanes g.F.Packing.PackedValue.lanes n ext_parts g.met.F.Packing.PackedValue.lanes_are.length-parts g.EF.Algebra.embed
    c.loop-z.out (logical ext.ext_lanes c.args.out.now) c.args.weights.now c.args.rows.now z s c.block.result c.block-in-loop-z.result c.block-in-loop-z-2.result c.block-in-loop-z-3.result
    c.index-out-z.result c.plus_four_products.result within (length-logical ext.ext_lanes n ext_parts c.args.out.now) (ap (λ k. k * n) (sym c.loop-z.auto.out)) c.requires.weights c.requires.rows
    c.loop-z.invariant c.index-out-z.is c.plus_four_products.ensures
    (c.block.ensures ∙ ap block (c.row_of-first.ensures.exact s c.requires.rows))
    (c.block-in-loop-z.ensures ∙ ap block (c.row_of-second.ensures.exact s c.requires.rows))
    (c.block-in-loop-z-2.ensures ∙ ap block (c.row_of-third.ensures.exact s c.requires.rows))
    (c.block-in-loop-z-3.ensures ∙ ap block (c.row_of-fourth.ensures.exact s c.requires.rows))

pub returns : goal.returns
returns g c =
    let ring = g.EF.Additive.ring in
    let laws = g.met.EF.Additive.laws in
    let n = g.F.Packing.PackedValue.WIDTH in
    let ext = g.EF.ExtensionPacking.PackedFieldExtension in
    let ext_parts = g.met.EF.ExtensionPacking.PackedFieldExtension.lanes_are.length-parts in
    let old = logical ext.ext_lanes c.args.out.now in
    let w = c.args.weights.now in
    let e = map g.EF.Algebra.embed c.args.rows.now in
    let many = length-logical ext.ext_lanes n ext_parts c.args.out.now in
    let some : 0 < length c.args.weights.now = omega (arith, c.requires.weights) in
    let entries : length (map g.EF.Algebra.embed c.args.rows.now) ≡ length c.args.weights.now * length (logical g.EF.ExtensionPacking.PackedFieldExtension.ext_lanes c.args.out.now) =
    length-map c.args.rows.now g.EF.Algebra.embed ∙ c.requires.rows ∙ ap (λ k. k * (length c.args.out.now * n)) (sym c.requires.weights) ∙ ap (λ k. length w * k) (sym many) in
    let end : c.loop-z.z ≡ length c.args.out.now = omega arith in
    c.loop-z.invariant
    ∙ zip_whole ring.sum old (front ring w e) (c.loop-z.z * n) (many ∙ ap (λ k. k * n) (sym end)) (sym (length-front_rows ring laws w e (length old) some entries))
    ∙ sym (plus_rows-front ring laws old w e some entries)
