use Rattle.std.proofs.Common.{◌*◌, ◌∙◌, [], map, length, ap, sym, arith}
use Rattle.std.proofs.lemmas.List.{take_all}
use Rattle.mlu_ring.specs.Lanes.{logical}
use Rattle.mlu_ring.proofs.Logical.{length-logical}
use Rattle.mlu_kernel.specs.Kernels.{plus_rows}
use Rattle.mlu_kernel.proofs.PlusRows.{plus_rows-none}
use Rattle.mlu_eq.specs.Split.{contents}
use Rattle.mlu_eq.proofs.Compressions.{plus_rows-contents_more}
use Rattle.mlu_eq.proofs.Contents.{length-contents}
use Rattle.mlu_eq.proofs.RowsMapped.{row-map}
use Rattle.mlu_eq.proofs.split.prefix.compress_prefix_to_packed_into.Goals as goal

pub loop-j-init : goal.loop-j-init
loop-j-init g c =
    let w = c.args.eq1.now.weights in
    let ring = g.EF.Additive.ring in
    let old = logical g.EF.ExtensionPacking.PackedFieldExtension.ext_lanes c.args.out.now in
    sym (plus_rows-none ring g.met.EF.Additive.laws old (contents ring [] w) (map g.EF.Algebra.embed c.args.entries.now) (ap (λ k. k * length old) (length-contents ring [] w) ∙ omega arith))

pub loop-j-preserved : goal.loop-j-preserved
loop-j-preserved g c =
    let w = c.args.eq1.now.weights in
    let lanes = g.EF.ExtensionPacking.PackedFieldExtension.ext_lanes in
    let n = g.F.Packing.PackedValue.WIDTH in
    let long = g.met.EF.ExtensionPacking.PackedFieldExtension.lanes_are.length-parts in
    let ring = g.EF.Additive.ring in
    let embed = g.EF.Algebra.embed in
    let x = c.index-eq0-j.result in
    let r = length w * (length c.args.out.now * n) in
    let size = ap (λ k. length w * k) (sym (length-logical lanes n long c.args.out.now)) in
    let between = logical lanes c.loop-j.out in
    c.add_rows_to_packed.ensures
    ∙ ap (λ rows. plus_rows ring between (map (ring.product x) w) rows) (row-map embed c.args.entries.now c.row_of.result.now r c.loop-j.j (c.row_of.ensures.exact r c.requires))
    ∙ plus_rows-contents_more ring g.met.EF.Additive.laws (logical lanes c.args.out.now) w c.args.eq0.now (map embed c.args.entries.now) between c.loop-j.j r x
    c.loop-j-test.true size c.index-eq0-j.is c.loop-j.invariant

pub returns : goal.returns
returns g c =
    let w = c.args.eq1.now.weights in
    let ring = g.EF.Additive.ring in
    let old = logical g.EF.ExtensionPacking.PackedFieldExtension.ext_lanes c.args.out.now in
    c.loop-j.invariant
    ∙ ap (λ eq0. plus_rows ring old (contents ring eq0 w) (map g.EF.Algebra.embed c.args.entries.now)) (take_all c.loop-j.j c.args.eq0.now c.loop-j-test.false)
