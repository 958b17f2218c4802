use Rattle.std.proofs.Common.{◌<◌, ◌≤◌, ◌*◌, ◌∷◌, [], ◌∙◌, map, length, ap, sym, arith}
use Rattle.std.proofs.lemmas.List.{take_all}
use Rattle.mlu_ring.specs.Lanes.{logical}
use Rattle.mlu_ring.proofs.Logical.{length-logical}
use Rattle.mlu_ring.proofs.Rows.{map-row_of}
use Rattle.mlu_kernel.specs.Kernels.{plus_rows}
use Rattle.mlu_kernel.proofs.PlusRows.{plus_rows-none, plus_rows-take_more}
use Rattle.mlu_kernel.proofs.prefix.add_rows_by_lane.Goals as goal

pub loop-k-init : goal.loop-k-init
loop-k-init g c =
    let old = logical g.EF.ExtensionPacking.PackedFieldExtension.ext_lanes c.args.out.now in
    sym (plus_rows-none g.EF.Additive.ring g.met.EF.Additive.laws old [] (map g.EF.Algebra.embed c.args.rows.now) (omega arith))

pub loop-k-preserved : goal.loop-k-preserved
loop-k-preserved g c =
    let ring = g.EF.Additive.ring in
    let embed = g.EF.Algebra.embed in
    let n = g.F.Packing.PackedValue.WIDTH in
    let lanes = g.EF.ExtensionPacking.PackedFieldExtension.ext_lanes in
    let long = g.met.EF.ExtensionPacking.PackedFieldExtension.lanes_are.length-parts in
    let weights = long c.args.weights in
    let within : c.loop-k.k < length (g.EF.ExtensionPacking.PackedFieldExtension.ext_lanes c.args.weights) = omega (arith, weights) in
    let below : c.loop-k.k < c.WIDTH.result = omega (arith, c.WIDTH.ensures) in
    let between = logical lanes c.loop-k.out in
    let s = length c.args.out.now * n in
    let row = ap (map embed) c.row_of.ensures.row ∙ map-row_of embed c.args.rows.now c.WIDTH.result s c.loop-k.k below (c.requires ∙ ap (λ k. k * s) (sym c.WIDTH.ensures)) in
    c.add_row_times.ensures
    ∙ ap (plus_rows ring between (c.ext_lane.result ∷ [])) row
    ∙ plus_rows-take_more ring g.met.EF.Additive.laws (logical lanes c.args.out.now) (lanes c.args.weights) (map embed c.args.rows.now) between c.loop-k.k s c.ext_lane.result
    within (length-logical lanes n long c.args.out.now) (c.ext_lane.ensures c.ext_lane.result) c.loop-k.invariant

pub returns : goal.returns
returns g c =
    let lanes = g.EF.ExtensionPacking.PackedFieldExtension.ext_lanes in
    let long = g.met.EF.ExtensionPacking.PackedFieldExtension.lanes_are.length-parts c.args.weights in
    let whole : length (g.EF.ExtensionPacking.PackedFieldExtension.ext_lanes c.args.weights) ≤ c.loop-k.k = omega (arith, long) in
    c.loop-k.invariant
    ∙ ap (λ w. plus_rows g.EF.Additive.ring (logical lanes c.args.out.now) w (map g.EF.Algebra.embed c.args.rows.now)) (take_all c.loop-k.k (lanes c.args.weights) whole)
