use Rattle.std.proofs.Common.{◌∙◌, map, sym, ap, arith}
use Rattle.std.proofs.lemmas.List.{length-map}
use Rattle.mlu_ring.proofs.Pairs.{read-map}
use Rattle.mlu_ring.proofs.Zips.{zip_step, zip_whole}
use Rattle.mlu_kernel.proofs.PlusRows.{zip2-row}
use Rattle.mlu_eq.proofs.split.prefix.add_scalar_row.Goals as goal

pub loop-z-preserved : goal.loop-z-preserved
loop-z-preserved g c =
    let ring = g.EF.Additive.ring in
    let embed = g.EF.Algebra.embed in
    let times = ring.product c.args.weight in
    let e = map embed c.args.row.now in
    let x = c.index-row-z.result in
    zip_step ring.sum c.args.out.now (map times e) c.loop-z.out c.loop-z.z c.index-out-z.result (times (embed x)) c.add.result
    c.loop-z-test.true (sym (length-map e times ∙ length-map c.args.row.now embed ∙ c.requires)) c.loop-z.invariant c.index-out-z.is
    (read-map times e c.loop-z.z (embed x) (read-map embed c.args.row.now c.loop-z.z x c.index-row-z.is))
    (g.met.EF.Additive.adds c.index-out-z.result c.scale.result c.add.result c.add.ensures ∙ ap (ring.sum c.index-out-z.result) c.scale.ensures)

pub returns : goal.returns
returns g c =
    let ring = g.EF.Additive.ring in
    let times = ring.product c.args.weight in
    let e = map g.EF.Algebra.embed c.args.row.now in
    let long = sym (length-map c.args.row.now g.EF.Algebra.embed ∙ c.requires) in
    c.loop-z.invariant
    ∙ zip_whole ring.sum c.args.out.now (map times e) c.loop-z.z (omega arith) (long ∙ sym (length-map e times))
    ∙ zip2-row ring g.met.EF.Additive.laws c.args.out.now e c.args.weight long
