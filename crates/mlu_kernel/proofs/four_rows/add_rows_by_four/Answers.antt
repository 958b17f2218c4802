use Rattle.std.proofs.Common.{◌<◌, ◌≤◌, ◌+◌, ◌*◌, ◌∷◌, [], ◌∙◌, map, length, refl, ap, sym, arith}
use Rattle.std.proofs.lemmas.List.{take_all}
use Rattle.mlu_ring.specs.Lanes.{logical}
use Rattle.mlu_ring.proofs.Logical.{length-logical}
use Rattle.mlu_ring.proofs.Rows.{map-row_at}
use Rattle.mlu_kernel.specs.Kernels.{plus_rows}
use Rattle.mlu_kernel.proofs.PlusRows.{plus_rows-none}
use Rattle.mlu_kernel.proofs.FourRows.{plus_rows-four_more, rows-by_four}
use Rattle.mlu_kernel.proofs.four_rows.add_rows_by_four.Goals as goal

pub loop-i-init : goal.loop-i-init
loop-i-init g c =
    let old = logical g.EF.ExtensionPacking.PackedFieldExtension.ext_lanes c.args.out.now in
    sym (plus_rows-none g.EF.Additive.ring g.met.EF.Additive.laws old [] (map g.EF.Algebra.embed c.args.rows.now) (omega arith))

pub add_four_rows-requires-clause-rows : goal.add_four_rows-requires-clause-rows
add_four_rows-requires-clause-rows g c =
    let n = g.F.Packing.PackedValue.WIDTH in
    let s = length c.args.out.now * n in
    c.row_of.ensures.size (4 * s) (rows-by_four _ n _ s c.requires.rows c.requires.fours c.WIDTH-fours.ensures)
    ∙ ap (λ k. 4 * (k * n)) (sym c.loop-i.auto.out)

pub loop-i-preserved : goal.loop-i-preserved
loop-i-preserved g c =
    let ring = g.EF.Additive.ring in
    let embed = g.EF.Algebra.embed in
    let n = g.F.Packing.PackedValue.WIDTH in
    let lanes = g.EF.ExtensionPacking.PackedFieldExtension.ext_lanes in
    let long = g.met.EF.ExtensionPacking.PackedFieldExtension.lanes_are.length-parts in
    let weights = long c.args.weights in
    let i = c.loop-i.i in
    let s = length c.args.out.now * n in
    let within : 4 * c.loop-i.i + 3 < length (g.EF.ExtensionPacking.PackedFieldExtension.ext_lanes c.args.weights) = omega (arith, weights, c.WIDTH-fours.ensures, c.requires.fours) in
    let between = logical lanes c.loop-i.out in
    let four = c.ext_lane.result ∷ c.ext_lane-in-loop-i.result ∷ c.ext_lane-in-loop-i-2.result ∷ c.ext_lane-in-loop-i-3.result ∷ [] in
    let row = c.row_of.ensures.exact (4 * s) (rows-by_four _ n _ s c.requires.rows c.requires.fours c.WIDTH-fours.ensures) in
    c.add_four_rows.ensures
    ∙ ap (plus_rows ring between four) (ap (map embed) row ∙ map-row_at embed (4 * s) c.args.rows.now i)
    ∙ plus_rows-four_more ring g.met.EF.Additive.laws (logical lanes c.args.out.now) (lanes c.args.weights) (map embed c.args.rows.now) between i (4 * i) s (4 * s) _ _ _ _
    refl within (length-logical lanes n long c.args.out.now) refl
    (c.ext_lane.ensures _) (c.ext_lane-in-loop-i.ensures _) (c.ext_lane-in-loop-i-2.ensures _) (c.ext_lane-in-loop-i-3.ensures _) c.loop-i.invariant

pub returns : goal.returns
returns g c =
    let lanes = g.EF.ExtensionPacking.PackedFieldExtension.ext_lanes in
    let long = g.met.EF.ExtensionPacking.PackedFieldExtension.lanes_are.length-parts c.args.weights in
    let whole : length (g.EF.ExtensionPacking.PackedFieldExtension.ext_lanes c.args.weights) ≤ 4 * c.loop-i.i = omega (arith, long, c.WIDTH-fours.ensures, c.requires.fours) in
    c.loop-i.invariant
    ∙ ap (λ w. plus_rows g.EF.Additive.ring (logical lanes c.args.out.now) w (map g.EF.Algebra.embed c.args.rows.now)) (take_all (4 * c.loop-i.i) (lanes c.args.weights) whole)
