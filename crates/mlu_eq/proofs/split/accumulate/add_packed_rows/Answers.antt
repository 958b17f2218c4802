use Rattle.std.proofs.Common.{◌≡◌, ◌+◌, ◌-◌, ◌*◌, ◌∙◌, map, length, take, drop, ap, sym, arith}
use Rattle.std.specs.Simd.Lanes.{zip2}
use Rattle.mlu_ring.specs.Lanes.{logical}
use Rattle.mlu_ring.proofs.Logical.{length-logical}
use Rattle.mlu_eq.proofs.Accumulations.{length-rows, logical-added, logical-written, rows_step, rows_whole}
use Rattle.mlu_eq.proofs.Products.{block, length-block, logical-block}
use Rattle.mlu_eq.proofs.split.accumulate.add_packed_rows.Goals as goal

pub loop-j-preserved : goal.loop-j-preserved
loop-j-preserved g c =
    let ring = g.EF.Additive.ring in
    let packed = g.EF.ExtensionPacking.Additive.ring in
    let ext = g.EF.ExtensionPacking.PackedFieldExtension in
    let met = g.met.EF.ExtensionPacking.PackedFieldExtension in
    let n = g.F.Packing.PackedValue.WIDTH in
    let all = met.lanes_are.length-parts in
    let weights = c.args.weights.now in
    let m = length weights in
    let w = logical ext.ext_lanes weights in
    let out = c.loop-j.out in
    let eq0 = c.args.eq0.now in
    let x = c.index-eq0-j.result in
    let j = c.loop-j.j in
    let factor = c.mul-factor.result in
    let embedded = g.EF.ExtensionPacking.Algebra-1.embed factor in
    let long = sym (length-logical ext.ext_lanes n all weights) in
    let size = length-block out j (length eq0) m c.loop-j-test.true (c.loop-j.auto.out ∙ c.requires) in
    let row =
    ap (logical ext.ext_lanes) (c.add_scaled_each.ensures ∙ ap (λ ps. zip2 packed.sum ps (map (packed.product embedded) weights)) (block out j m))
    ∙ logical-added packed ring ext.ext_lanes ext.of_ext_lanes n met.lanes_are met.lane_by_lane (take m (drop (j * m) out)) weights embedded factor (met.embeds_element factor) size
    ∙ ap (λ vs. zip2 ring.sum vs (map (ring.product factor) w)) (logical-block ext.ext_lanes n all out j m ∙ sym (block (logical ext.ext_lanes out) j (m * n))) in
    let places : j * (m * n) + m * n - j * (m * n) ≡ m * n = omega arith in
    logical-written ext.ext_lanes n all out c.add_scaled_each.new.out j m
    ∙ rows_step ring g.met.EF.Additive.laws eq0 w (logical ext.ext_lanes c.args.out.now) c.args.scale (length-rows ext.ext_lanes n all c.args.out.now weights (length eq0) c.requires)
    (logical ext.ext_lanes out) (logical ext.ext_lanes c.add_scaled_each.new.out) x factor j (j * (m * n)) (j * (m * n) + m * n - j * (m * n)) c.loop-j-test.true c.index-eq0-j.is
    (g.met.EF.PrimeCharacteristicRing.multiplies c.args.scale x factor c.mul-factor.ensures) (ap (λ k. j * k) long) (places ∙ long) c.loop-j.invariant row

pub returns : goal.returns
returns g c =
    let lanes = g.EF.ExtensionPacking.PackedFieldExtension.ext_lanes in
    let all = g.met.EF.ExtensionPacking.PackedFieldExtension.lanes_are.length-parts in
    let eq0 = c.args.eq0.now in
    rows_whole g.EF.Additive.ring g.met.EF.Additive.laws eq0 (logical lanes c.args.weights.now) (logical lanes c.args.out.now) c.args.scale
    (length-rows lanes g.F.Packing.PackedValue.WIDTH all c.args.out.now c.args.weights.now (length eq0) c.requires) (logical lanes c.loop-j.out) c.loop-j.j (omega arith) c.loop-j.invariant
