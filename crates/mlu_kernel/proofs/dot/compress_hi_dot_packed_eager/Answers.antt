use Rattle.std.proofs.Common.{◌*◌, ◌∙◌, [], map, length, refl, ap, sym}
use Rattle.std.proofs.lemmas.List.{take_all}
use Rattle.mlu_ring.specs.Lanes.{logical}
use Rattle.mlu_ring.specs.Tables.{pair}
use Rattle.mlu_ring.proofs.Logical.{length-logical}
use Rattle.mlu_ring.proofs.Rows.{map-row_of}
use Rattle.mlu_kernel.specs.Kernels.{double_sum}
use Rattle.mlu_kernel.proofs.DoubleSums.{double_sum-none, double_sum_step}
use Rattle.mlu_kernel.proofs.dot.compress_hi_dot_packed_eager.Goals as goal

pub loop-j-init : goal.loop-j-init
loop-j-init g c =
    let w = logical g.EF.ExtensionPacking.PackedFieldExtension.ext_lanes c.args.eq1.now in
    c.ZERO-sum.ensures
    ∙ g.met.EF.Additive.zero_is
    ∙ sym (double_sum-none g.EF.Additive.ring g.met.EF.Additive.laws [] w (map g.EF.Algebra.embed c.args.chunk.now) refl)

pub loop-j-preserved : goal.loop-j-preserved
loop-j-preserved g c =
    let ring = g.EF.Additive.ring in
    let embed = g.EF.Algebra.embed in
    let packed = g.EF.ExtensionPacking.PackedFieldExtension in
    let met = g.met.EF.ExtensionPacking.PackedFieldExtension in
    let w = logical packed.ext_lanes c.args.eq1.now in
    let e = map embed c.args.chunk.now in
    let r = length c.args.eq1.now * g.F.Packing.PackedValue.WIDTH in
    let long = sym (length-logical packed.ext_lanes g.F.Packing.PackedValue.WIDTH met.lanes_are.length-parts c.args.eq1.now) in
    let row = ap (map embed) c.row_of.ensures.row ∙ map-row_of embed c.args.chunk.now (length c.args.eq0.now) r c.loop-j.j c.loop-j-test.true c.requires in
    let dot = c.row_dot_in_lanes-dot.ensures ∙ ap (pair ring w) row in
    g.met.EF.Additive.adds c.loop-j.sum c.mul.result c.add-sum.result c.add-sum.ensures
    ∙ ap (ring.sum c.loop-j.sum) (g.met.EF.PrimeCharacteristicRing.multiplies c.index-eq0-j.result c.lane_sum.result c.mul.result c.mul.ensures)
    ∙ double_sum_step ring g.met.EF.Additive.laws c.args.eq0.now w e c.loop-j.j r c.index-eq0-j.result c.loop-j.sum c.lane_sum.result
    c.loop-j-test.true long c.index-eq0-j.is (c.lane_sum.ensures ∙ dot) c.loop-j.invariant

pub returns : goal.returns
returns g c =
    let w = logical g.EF.ExtensionPacking.PackedFieldExtension.ext_lanes c.args.eq1.now in
    c.loop-j.invariant ∙ ap (λ rows. double_sum g.EF.Additive.ring rows w (map g.EF.Algebra.embed c.args.chunk.now)) (take_all c.loop-j.j c.args.eq0.now c.loop-j-test.false)
