use Rattle.std.proofs.Common.{◌≤◌, ◌<◌, ◌∷◌, [], ◌++◌, ◌∙◌, length, map, take, ap, sym, arith, append_assoc}
use Rattle.std.proofs.lemmas.List.{map_more, take_all}
use Rattle.mlu_eq.proofs.half.push_lane_images.Goals as goal

pub loop-k-preserved : goal.loop-k-preserved
loop-k-preserved g c =
    let image = g.R.MapFrom.image in
    let lanes = g.EF.ExtensionPacking.PackedFieldExtension.ext_lanes c.args.value in
    let long = g.met.EF.ExtensionPacking.PackedFieldExtension.lanes_are.length-parts c.args.value in
    let k = c.loop-k.k in
    let within : c.loop-k.k < length (g.EF.ExtensionPacking.PackedFieldExtension.ext_lanes c.args.value) = omega (arith, long) in
    let len = c.push_reserved.ensures.len in
    let before = c.loop-k.invariant.len in
    record {
      items = c.push_reserved.ensures.items
          ∙ ap (λ l. l ++ c.map.result ∷ []) c.loop-k.invariant.items
          ∙ append_assoc c.args.images.now.items (map image (take k lanes)) (c.map.result ∷ [])
          ∙ ap (λ x. c.args.images.now.items ++ (map image (take k lanes) ++ x ∷ [])) (c.map.ensures ∙ ap image (c.ext_lane.ensures c.ext_lane.result))
          ∙ ap (λ l. c.args.images.now.items ++ l) (sym (map_more image lanes k c.ext_lane.result within));
      len = omega (arith, len, before);
      capacity = c.push_reserved.ensures.capacity ∙ c.loop-k.invariant.capacity;
    }

pub returns-clause-items : goal.returns-clause-items
returns-clause-items g c =
    let long = g.met.EF.ExtensionPacking.PackedFieldExtension.lanes_are.length-parts c.args.value in
    let whole : length (g.EF.ExtensionPacking.PackedFieldExtension.ext_lanes c.args.value) ≤ c.loop-k.k = omega (arith, long) in
    c.loop-k.invariant.items ∙ ap (λ l. c.args.images.now.items ++ map g.R.MapFrom.image l) (take_all c.loop-k.k (g.EF.ExtensionPacking.PackedFieldExtension.ext_lanes c.args.value) whole)
