use Rattle.std.proofs.Common.{◌*◌, ◌∙◌, [], length, take, drop, refl, ap, sym}
use Rattle.std.proofs.lemmas.List.{take_all}
use Rattle.mlu_ring.specs.Lanes.{logical}
use Rattle.mlu_ring.specs.Sums.{sum_of}
use Rattle.mlu_ring.specs.Tables.{pair}
use Rattle.mlu_ring.proofs.Logical.{length-logical}
use Rattle.mlu_kernel.specs.Kernels.{double_sum}
use Rattle.mlu_kernel.proofs.DoubleSums.{double_sum-none, double_sum_step}
use Rattle.mlu_eq.proofs.Products.{length-block, logical-block, total-pair}
use Rattle.mlu_eq.proofs.split.dot.dot_of_rows_by_lanes.Goals as goal

pub loop-j-init : goal.loop-j-init
loop-j-init g c =
    let lanes = g.EF.ExtensionPacking.PackedFieldExtension.ext_lanes in
    c.ZERO-sum.ensures
    ∙ g.met.EF.Additive.zero_is
    ∙ sym (double_sum-none g.EF.Additive.ring g.met.EF.Additive.laws [] (logical lanes c.args.weights.now) (logical lanes c.args.entries.now) refl)

pub loop-j-preserved : goal.loop-j-preserved
loop-j-preserved g c =
    let ring = g.EF.Additive.ring in
    let whole = g.EF.ExtensionPacking.Additive.ring in
    let packed = g.EF.ExtensionPacking.PackedFieldExtension in
    let met = g.met.EF.ExtensionPacking.PackedFieldExtension in
    let n = g.F.Packing.PackedValue.WIDTH in
    let weights = c.args.weights.now in
    let m = length weights in
    let w = logical packed.ext_lanes weights in
    let e = logical packed.ext_lanes c.args.entries.now in
    let long = length-logical packed.ext_lanes n met.lanes_are.length-parts weights in
    let same = sym (length-block c.args.entries.now c.loop-j.j (length c.args.eq0.now) m c.loop-j-test.true c.requires) in
    let dot =
    c.lane_sum.ensures
    ∙ ap (λ p. sum_of ring (packed.ext_lanes p)) (c.dot-row.ensures ∙ ap (pair whole weights) (c.row_of.ensures.exact m c.requires))
    ∙ total-pair whole g.met.EF.ExtensionPacking.Additive.laws ring g.met.EF.Additive.laws packed.ext_lanes packed.of_ext_lanes n met.lanes_are met.lane_by_lane weights (take m (drop (c.loop-j.j * m) c.args.entries.now)) same
    ∙ ap (pair ring w) (logical-block packed.ext_lanes n met.lanes_are.length-parts c.args.entries.now c.loop-j.j m) in
    g.met.EF.Additive.adds c.loop-j.sum c.mul.result c.add-sum.result c.add-sum.ensures
    ∙ ap (ring.sum c.loop-j.sum) (g.met.EF.PrimeCharacteristicRing.multiplies c.index-eq0-j.result c.lane_sum.result c.mul.result c.mul.ensures)
    ∙ double_sum_step ring g.met.EF.Additive.laws c.args.eq0.now w e c.loop-j.j (m * n) c.index-eq0-j.result c.loop-j.sum c.lane_sum.result
    c.loop-j-test.true (sym long) c.index-eq0-j.is dot c.loop-j.invariant

pub returns : goal.returns
returns g c =
    let lanes = g.EF.ExtensionPacking.PackedFieldExtension.ext_lanes in
    let w = logical lanes c.args.weights.now in
    let e = logical lanes c.args.entries.now in
    c.loop-j.invariant
    ∙ ap (λ rows. double_sum g.EF.Additive.ring rows w e) (take_all c.loop-j.j c.args.eq0.now c.loop-j-test.false)
