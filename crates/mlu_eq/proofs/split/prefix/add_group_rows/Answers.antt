use Rattle.std.proofs.Common.{◌*◌, ◌<◌, ◌≤◌, ◌∷◌, [], ◌∙◌, map, length, refl, ap, sym, arith}
use Rattle.std.proofs.lemmas.List.{take_all}
use Rattle.mlu_kernel.specs.Kernels.{plus_rows}
use Rattle.mlu_kernel.proofs.PlusRows.{plus_rows-none, plus_rows-take_more}
use Rattle.mlu_eq.proofs.RowsMapped.{row-map}
use Rattle.mlu_eq.proofs.split.prefix.add_group_rows.Goals as goal

pub loop-k-init : goal.loop-k-init
loop-k-init g c = sym (plus_rows-none g.EF.Additive.ring g.met.EF.Additive.laws c.args.out.now [] (map g.EF.Algebra.embed c.args.rows.now) (omega arith))

pub loop-k-preserved : goal.loop-k-preserved
loop-k-preserved g c =
    let ring = g.EF.Additive.ring in
    let embed = g.EF.Algebra.embed in
    let lanes = g.EF.ExtensionPacking.PackedFieldExtension.ext_lanes in
    let long = g.met.EF.ExtensionPacking.PackedFieldExtension.lanes_are.length-parts c.args.weights in
    let within : c.loop-k.k < length (g.EF.ExtensionPacking.PackedFieldExtension.ext_lanes c.args.weights) = omega (arith, long) in
    let r = length c.args.out.now in
    let size = c.requires ∙ ap (λ k. k * r) (sym c.WIDTH.ensures) in
    c.add_scalar_row.ensures
    ∙ ap (λ row. plus_rows ring c.loop-k.out (c.ext_lane.result ∷ []) row) (row-map embed c.args.rows.now c.row_of.result.now r c.loop-k.k (c.row_of.ensures.exact r size))
    ∙ plus_rows-take_more ring g.met.EF.Additive.laws c.args.out.now (lanes c.args.weights) (map embed c.args.rows.now) c.loop-k.out c.loop-k.k r c.ext_lane.result
    within refl (c.ext_lane.ensures c.ext_lane.result) c.loop-k.invariant

pub returns : goal.returns
returns g c =
    let lanes = g.EF.ExtensionPacking.PackedFieldExtension.ext_lanes in
    let long = g.met.EF.ExtensionPacking.PackedFieldExtension.lanes_are.length-parts c.args.weights in
    let whole : length (g.EF.ExtensionPacking.PackedFieldExtension.ext_lanes c.args.weights) ≤ c.loop-k.k = omega (arith, long) in
    c.loop-k.invariant
    ∙ ap (λ w. plus_rows g.EF.Additive.ring c.args.out.now w (map g.EF.Algebra.embed c.args.rows.now)) (take_all c.loop-k.k (lanes c.args.weights) whole)
