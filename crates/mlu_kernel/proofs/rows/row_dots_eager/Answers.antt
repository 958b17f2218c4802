use Rattle.std.proofs.Common.{◌<◌, ◌*◌, ◌∙◌, map, length, ap, sym, arith}
use Rattle.std.proofs.lemmas.List.{length-set}
use Rattle.mlu_ring.specs.Lanes.{logical}
use Rattle.mlu_ring.specs.Matrices.{row_at}
use Rattle.mlu_ring.specs.Tables.{pair}
use Rattle.mlu_ring.proofs.Logical.{length-logical}
use Rattle.mlu_ring.proofs.Rows.{map-row_at}
use Rattle.mlu_kernel.proofs.Columns.{values-more}
use Rattle.mlu_kernel.proofs.rows.row_dots_eager.Goals as goal

pub loop-y-preserved : goal.loop-y-preserved
loop-y-preserved g c =
    let ring = g.EF.Additive.ring in
    let embed = g.EF.Algebra.embed in
    let lanes = g.EF.ExtensionPacking.PackedFieldExtension.ext_lanes in
    let w = logical lanes c.args.weights.now in
    let e = map embed c.args.rows.now in
    let n = length c.args.weights.now * g.F.Packing.PackedValue.WIDTH in
    let long = length-logical lanes g.F.Packing.PackedValue.WIDTH g.met.EF.ExtensionPacking.PackedFieldExtension.lanes_are.length-parts c.args.weights.now in
    let within : c.loop-y.y < length c.loop-y.out = omega (arith, c.loop-y.invariant.size) in
    let row = ap (map embed) (c.row_of.ensures.exact n (c.requires ∙ ap (λ k. k * n) (sym c.loop-y.invariant.size))) ∙ map-row_at embed n c.args.rows.now c.loop-y.y in
    let dot = c.lane_sum.ensures ∙ c.row_dot_in_lanes-dot.ensures ∙ ap (pair ring w) row ∙ ap (λ k. pair ring w (row_at k e c.loop-y.y)) (sym long) in
    record {
      size = length-set c.loop-y.out c.loop-y.y c.lane_sum.result ∙ c.loop-y.invariant.size;
      done = values-more (λ y. pair ring w (row_at (length w) e y)) c.loop-y.out c.loop-y.y c.lane_sum.result within c.loop-y.invariant.done dot;
    }
