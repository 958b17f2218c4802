use Rattle.std.proofs.Common.{◌≡◌, ◌<◌, [], ◌∷◌, length, length-append, length-set, map, take, subst, arith, lit<}
use Rattle.std.specs.List.{slice_split}
use Rattle.std.proofs.lemmas.List.{map-append, take_all, take_more_set}
use Rattle.std.proofs.lemmas.Iterator.Splits.{YieldsList-from_str_split}
use Rattle.std.proofs.lemmas.Iterator.Consumers.{YieldsList-end, YieldsList-turn}
use Rattle.mlu_replay_calls.specs.Elements.{EachStands, IsResidue}
use Rattle.mlu_replay_calls.proofs.Lists.{EachStands-at, EachStands-length, EachStands-more}
use Rattle.mlu_replay_calls.proofs.element.read_coefficients.Goals as goal

pub returns-then-count : goal.returns-then-count
returns-then-count g c =
    let same = c.into_iter-piece-iterator.ensures.into_iter_gives in
    let split = c.split-piece-items.ensures in
    let turn = YieldsList-turn (YieldsList-from_str_split {s = c.into_iter-piece-iterator.result} 58 c.args.word.now (lit< tt) (rw same split.text) (rw same split.has_more) (rw same split.pattern))
    c.loop-piece.yielded _ c.loop-piece.yielded_by _ _ c.in-Some.piece c.in-Some.is c.next.ensures.steps in
    λ xs size each. omega (arith, turn.0, c.loop-piece.invariant.counted, c.if-count.true, size, EachStands-length IsResidue _ xs each)

pub returns-in_err-coefficients : goal.returns-in_err-coefficients
returns-in_err-coefficients g c =
    let same = c.into_iter-piece-iterator.ensures.into_iter_gives in
    let split = c.split-piece-items.ensures in
    let turn = YieldsList-turn (YieldsList-from_str_split {s = c.into_iter-piece-iterator.result} 58 c.args.word.now (lit< tt) (rw same split.text) (rw same split.has_more) (rw same split.pattern))
    c.loop-piece.yielded _ c.loop-piece.yielded_by _ _ c.in-Some.piece c.in-Some.is c.next.ensures.steps in
    rw c.from_residual.ensures
    (λ xs size each.
    let at = EachStands-at IsResidue (slice_split _ c.args.word.now) xs (length c.loop-piece.yielded) c.in-Some.piece.now each turn.0 turn.1 in
    c.in_err-coefficients.ensures at.0 at.1)

pub loop-piece-preserved : goal.loop-piece-preserved
loop-piece-preserved g c =
    let kept = c.loop-piece.invariant in
    let words = map (λ x. x.now) c.loop-piece.yielded in
    let list = c.loop-piece.coefficients in
    let x = c.in_ok-coefficients.field-0 in
    let room : c.loop-piece.count < length list = omega (arith, kept.long, kept.within, c.if-count.false) in
    let more = EachStands-more IsResidue words (take c.loop-piece.count list) c.in-Some.piece.now x kept.each c.in_ok-coefficients.ensures in
    record {
      can_next = tt;
      is_finite = tt;
      long = rw length-set kept.long;
      within = omega (arith, room, kept.long);
      counted = omega (arith, kept.counted, length-append c.loop-piece.yielded (c.in-Some.piece ∷ []));
      each = rw (take_more_set list c.loop-piece.count x room) (simp map-append more);
    }

pub returns-then-count-2 : goal.returns-then-count-2
returns-then-count-2 g c =
    let same = c.into_iter-piece-iterator.ensures.into_iter_gives in
    let split = c.split-piece-items.ensures in
    let end = YieldsList-end (YieldsList-from_str_split {s = c.into_iter-piece-iterator.result} 58 c.args.word.now (lit< tt) (rw same split.text) (rw same split.has_more) (rw same split.pattern))
    c.loop-piece.yielded _ c.loop-piece.yielded_by _ _ c.in-None.is c.next.ensures.steps in
    let kept = c.loop-piece.invariant in
    let list = c.loop-piece.coefficients in
    let whole : take c.loop-piece.count list ≡ list = take_all c.loop-piece.count list (omega (arith, kept.long, c.if-count-2.true)) in
    subst (λ words. EachStands IsResidue words list) end.0 (subst (λ xs. EachStands IsResidue (map (λ x. x.now) c.loop-piece.yielded) xs) whole kept.each)

pub returns-else-count-2 : goal.returns-else-count-2
returns-else-count-2 g c =
    let same = c.into_iter-piece-iterator.ensures.into_iter_gives in
    let split = c.split-piece-items.ensures in
    let end = YieldsList-end (YieldsList-from_str_split {s = c.into_iter-piece-iterator.result} 58 c.args.word.now (lit< tt) (rw same split.text) (rw same split.has_more) (rw same split.pattern))
    c.loop-piece.yielded _ c.loop-piece.yielded_by _ _ c.in-None.is c.next.ensures.steps in
    λ xs size each. c.if-count-2.false (omega (arith, end.1, c.loop-piece.invariant.counted, size, EachStands-length IsResidue _ xs each))
