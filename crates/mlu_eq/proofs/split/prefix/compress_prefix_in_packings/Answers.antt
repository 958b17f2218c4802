use Rattle.std.proofs.Common.{◌≡◌, ◌/◌, ◌∙◌, length, map, take, replicate, ap, sym}
use Rattle.std.specs.Simd.Lanes.{zip2}
use Rattle.mlu_ring.specs.Lanes.{logical}
use Rattle.mlu_ring.proofs.Logical.{logical-replicate}
use Rattle.mlu_ring.proofs.Rings.{map-one}
use Rattle.mlu_kernel.specs.Kernels.{plus_rows}
use Rattle.mlu_eq.specs.Split.{contents}
use Rattle.mlu_eq.proofs.Places.{zero_places}
use Rattle.mlu_eq.proofs.Runs.{plus_rows-from_zeros}
use Rattle.mlu_eq.proofs.split.prefix.compress_prefix_in_packings.Goals as goal

pub returns : goal.returns
returns g c =
    let ring = g.EF.Additive.ring in
    let laws = g.met.EF.Additive.laws in
    let ext = g.EF.ExtensionPacking.PackedFieldExtension in
    let met = g.met.EF.ExtensionPacking.PackedFieldExtension in
    let width = g.F.Packing.PackedValue.WIDTH in
    let old = c.args.out.now in
    let weights = contents ring c.args.eq0.now c.args.eq1.now.weights in
    let e = map g.EF.Algebra.embed c.args.entries.now in
    let lanes = logical ext.ext_lanes in
    let places = replicate g.row.N c.ZERO-places.result in
    let zero = g.EF.ExtensionPacking.Additive.ring.zero in
    let empty : lanes (take (length old / c.WIDTH.result) places) ≡ replicate (length old) ring.zero =
    ap (λ k. lanes (take (length old / k) places)) c.WIDTH.ensures
    ∙ ap lanes (zero_places g.row.N (length old / width) c.ZERO-places.result c.requires.few zero (c.ZERO-places.ensures ∙ g.met.EF.ExtensionPacking.Additive.zero_is))
    ∙ logical-replicate ext.ext_lanes width (length old / width) zero ring.zero met.lane_by_lane.zero
    ∙ ap (λ k. replicate k ring.zero) (sym c.requires.whole) in
    let one = c.ONE.ensures ∙ g.met.EF.Additive.one_is in
    let sums = lanes c.compress_prefix_to_packed_into.new.out in
    c.add_lanes.ensures
    ∙ ap (zip2 ring.sum old) (map-one ring laws c.ONE.result sums one ∙ c.compress_prefix_to_packed_into.ensures ∙ ap (λ z. plus_rows ring z weights e) empty)
    ∙ plus_rows-from_zeros ring laws old weights e
