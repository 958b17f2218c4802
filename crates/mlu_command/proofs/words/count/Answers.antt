use Rattle.std.proofs.Common.{[], ◌∷◌, ◌++◌, length, ap, sym, ◌∙◌, arith, lit<, refl, length-append}
use Rattle.std.proofs.lemmas.List.{length-map, map-append}
use Rattle.std.proofs.lemmas.Iterator.Splits.{YieldsList-from_str_split}
use Rattle.std.proofs.lemmas.Iterator.Consumers.{YieldsList-turn, YieldsList-end}
use Rattle.mlu_command.specs.Words.{decimal_of}
use Rattle.mlu_command.proofs.Texts.{not_dash, IsNoList-part, text-parts}
use Rattle.mlu_command.proofs.words.count.Goals as goal

pub returns-in_err-number : goal.returns-in_err-number
returns-in_err-number c =
    let same = c.into_iter-piece-iterator.ensures.into_iter_gives in
    let split = c.split-piece-items.ensures in
    let turn = YieldsList-turn (YieldsList-from_str_split {s = c.into_iter-piece-iterator.result} 44 c.args.word.now (lit< tt) (rw same split.text) (rw same split.has_more) (rw same split.pattern))
    c.loop-piece.yielded _ c.loop-piece.yielded_by _ _ c.in-Some.piece c.in-Some.is c.next.ensures.steps in
    rw c.from_residual.ensures (IsNoList-part c.args.word.now (length c.loop-piece.yielded) c.in-Some.piece.now (not_dash _ c.if-eq.ensures) turn.0 turn.1 c.in_err-number.ensures)

pub loop-piece-preserved : goal.loop-piece-preserved
loop-piece-preserved c =
    let entries = c.loop-piece.invariant.entries in
    record {
      can_next = tt;
      is_finite = tt;
      counted = simp length-append (omega arith);
      entries = (entries.0 ++ (c.in_ok-number.field-0 ∷ []), simp map-append (rw (entries.1, c.in_ok-number.ensures) refl));
    }

pub returns : goal.returns
returns c =
    let same = c.into_iter-piece-iterator.ensures.into_iter_gives in
    let split = c.split-piece-items.ensures in
    let end = YieldsList-end (YieldsList-from_str_split {s = c.into_iter-piece-iterator.result} 44 c.args.word.now (lit< tt) (rw same split.text) (rw same split.has_more) (rw same split.pattern))
    c.loop-piece.yielded _ c.loop-piece.yielded_by _ _ c.in-None.is c.next.ensures.steps in
    let entries = c.loop-piece.invariant.entries in (
      entries.0,
      text-parts entries.0 c.args.word.now (entries.1 ∙ end.0),
      sym (length-map entries.0 decimal_of) ∙ ap length entries.1 ∙ length-map c.loop-piece.yielded (λ x. x.now) ∙ sym c.loop-piece.invariant.counted,
    )
