use Rattle.std.proofs.Common.{◌+◌, ◌∷◌, [], ◌++◌, ◌∙◌, map, take, ap, sym}
use Rattle.std.proofs.lemmas.List.{map_more}
use Rattle.mlu_eq.proofs.half.images.Goals as goal

pub loop-element-preserved : goal.loop-element-preserved
loop-element-preserved g c =
    let image = g.R.MapFrom.image in
    record {
      items = c.push_reserved.ensures.items
          ∙ ap (λ l. l ++ c.map.result ∷ []) c.loop-element.invariant.items
          ∙ ap (λ x. map image (take c.loop-element.element-index c.args.elements.now) ++ x ∷ []) (c.map.ensures ∙ ap image c.element-item.is)
          ∙ sym (map_more image c.args.elements.now c.loop-element.element-index _ c.loop-element-test.true);
      len = c.push_reserved.ensures.len ∙ ap (λ n. n + 1) c.loop-element.invariant.len;
      capacity = c.push_reserved.ensures.capacity ∙ c.loop-element.invariant.capacity;
    }
