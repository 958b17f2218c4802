use Rattle.std.proofs.Common.{◌≡◌, ◌+◌, ◌*◌, ◌^◌, ◌<◌, ◌++◌, ◌∙◌, length, map, take, ap, sym, arith, rules}
use Rattle.std.proofs.lemmas.List.{length-map, map-append, take_all}
use Rattle.mlu_ring.specs.Lanes.{logical}
use Rattle.mlu_ring.proofs.Logical.{length-logical, logical-take_more}
use Rattle.mlu_eq.proofs.Lengths.{power_of_lanes}
use Rattle.mlu_eq.proofs.half.lane_images.Goals as goal

pub loop-value-preserved : goal.loop-value-preserved
loop-value-preserved g c =
    let image = g.R.MapFrom.image in
    let width = g.F.Packing.PackedValue.WIDTH in
    let lanes = g.EF.ExtensionPacking.PackedFieldExtension.ext_lanes in
    let long = g.met.EF.ExtensionPacking.PackedFieldExtension.lanes_are.length-parts in
    let packed = c.args.packed.now in
    let i = c.loop-value.value-index in
    let next : i * width + width ≡ (i + 1) * width = omega arith in
    record {
      items = c.push_lane_images.ensures.items
          ∙ ap (λ l. l ++ map image (lanes c.value-item.result)) c.loop-value.invariant.items
          ∙ sym (map-append image (logical lanes (take i packed)) (lanes c.value-item.result))
          ∙ ap (λ v. map image (logical lanes (take i packed) ++ lanes v)) c.value-item.is
          ∙ ap (map image) (sym (logical-take_more lanes width long packed i c.value-item.result c.loop-value-test.true));
      len = c.push_lane_images.ensures.len ∙ ap (λ n. n + width) c.loop-value.invariant.len ∙ next;
      capacity = c.push_lane_images.ensures.capacity ∙ c.loop-value.invariant.capacity;
    }

pub returns-clause-power : goal.returns-clause-power
returns-clause-power g c = λ test.
    let image = g.R.MapFrom.image in
    let width = g.F.Packing.PackedValue.WIDTH in
    let lanes = g.EF.ExtensionPacking.PackedFieldExtension.ext_lanes in
    let packed = c.args.packed.now in
    let fits : length packed < 2 ^ 64 = search rules in
    power_of_lanes (length packed) width g.F.Packing.PackedValue.LOG_WIDTH (length c.loop-value.images.items) fits test g.met.F.Packing.PackedValue.width_is
    (ap length c.loop-value.invariant.items
    ∙ ap (λ ps. length (map image (logical lanes ps))) (take_all c.loop-value.value-index packed c.loop-value-test.false)
    ∙ length-map (logical lanes packed) image
    ∙ length-logical lanes width g.met.EF.ExtensionPacking.PackedFieldExtension.lanes_are.length-parts packed)
