use Rattle.std.proofs.Common.{rules, ◌≡◌, ◌++◌, ◌∷◌, [], map, lit<}
use Rattle.std.proofs.lemmas.List.{map-append}
use Rattle.std.proofs.lemmas.Iterator.Splits.{YieldsList-from_str_split}
use Rattle.std.proofs.lemmas.Iterator.Consumers.{YieldsList-end}
use Rattle.mlu_replay_calls.specs.Elements.{EachStands}
use Rattle.mlu_replay_calls.proofs.Lists.{EachStands-more, IsListWord-parts}
use Rattle.mlu_replay_calls.proofs.operands.read_list.Goals as goal

pub loop-piece-preserved : goal.loop-piece-preserved
loop-piece-preserved g c =
    let stands : g.T.Element.stands c.in-Some.piece.now c.in_ok-element.element = search rules in
    let items : c.push.new.self.items ≡ c.loop-piece.list.items ++ c.in_ok-element.element ∷ [] = search rules in
    let words = map (λ x. x.now) c.loop-piece.yielded in
    let more : EachStands g.T.Element.stands (words ++ c.in-Some.piece.now ∷ []) (c.loop-piece.list.items ++ c.in_ok-element.element ∷ []) =
    EachStands-more g.T.Element.stands words c.loop-piece.list.items c.in-Some.piece.now c.in_ok-element.element c.loop-piece.invariant.each stands in
    record {
      can_next = tt;
      is_finite = tt;
      each = rw items (simp map-append more);
    }

pub returns : goal.returns
returns g c =
    let same = c.into_iter-piece-iterator.ensures.into_iter_gives in
    let split = c.split-piece-items.ensures in
    let end = YieldsList-end (YieldsList-from_str_split {s = c.into_iter-piece-iterator.result} 44 c.args.word.now (lit< tt) (rw same split.text) (rw same split.has_more) (rw same split.pattern))
    c.loop-piece.yielded _ c.loop-piece.yielded_by _ _ c.in-None.is c.next.ensures.steps in
    IsListWord-parts g.T.Element.stands c.args.word.now _ _ c.loop-piece.invariant.each end.0
