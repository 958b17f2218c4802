use Rattle.std.proofs.Common.{◌≡◌, [], sym, Option, Some, None, length, ap, ◌∙◌, lit<, rules}
use Rattle.std.specs.Option.{MatchOption, IsSome}
use Rattle.std.proofs.lemmas.Iterator.Splits.{YieldsList-from_str_split}
use Rattle.std.proofs.lemmas.Iterator.Consumers.{YieldsList-turn, YieldsList-end}
use Rattle.std.specs.Cmp.Lexicographic.{same_text}
use Rattle.mlu_command.specs.Words.{text}
use Rattle.mlu_command.proofs.Texts.{not_dash, IsNoList-part, text-parts, text-injective}
use Rattle.mlu_command.proofs.words.read.Goals as goal

IsSome-unless : {X : Type 0} (o : Option X) (P : Type 0) (Q : X → Type 0) → MatchOption o P Q → (P → ⊥) → IsSome o
IsSome-unless None P Q h never = absurd (never h)
IsSome-unless (Some x) P Q h never = search rules

pub returns-then-eq-clause-size : goal.returns-then-eq-clause-size
returns-then-eq-clause-size c =
    let none : c.requires.0 ≡ [] = text-injective _ [] c.args.word.now c.requires.1 (sym (same_text _ _ c.if-eq.ensures)) in
    ap length (c.in_ok-list.ensures.items ∙ sym none) ∙ c.requires.2

pub unwrap-requires : goal.unwrap-requires
unwrap-requires c =
    let same = c.into_iter-piece-iterator.ensures.into_iter_gives in
    let split = c.split-piece-items.ensures in
    let turn = YieldsList-turn (YieldsList-from_str_split {s = c.into_iter-piece-iterator.result} 44 c.args.word.now (lit< tt) (rw same split.text) (rw same split.has_more) (rw same split.pattern))
    c.loop-piece.yielded _ c.loop-piece.yielded_by _ _ c.in-Some.piece c.in-Some.is c.next.ensures.steps in
    IsSome-unless c.number.result _ _ c.number.ensures
    (λ none. IsNoList-part c.args.word.now (length c.loop-piece.yielded) c.in-Some.piece.now (not_dash _ c.if-eq.ensures) turn.0 turn.1 none c.requires.0 c.requires.1)

pub returns : goal.returns
returns c =
    let same = c.into_iter-piece-iterator.ensures.into_iter_gives in
    let split = c.split-piece-items.ensures in
    let end = YieldsList-end (YieldsList-from_str_split {s = c.into_iter-piece-iterator.result} 44 c.args.word.now (lit< tt) (rw same split.text) (rw same split.has_more) (rw same split.pattern))
    c.loop-piece.yielded _ c.loop-piece.yielded_by _ _ c.in-None.is c.next.ensures.steps in
    let is : text c.loop-piece.list.items ≡ c.args.word.now = text-parts _ c.args.word.now (c.loop-piece.invariant.entries ∙ end.0) in
    record {
      text = is;
      size = ap length (text-injective _ c.requires.0 c.args.word.now is c.requires.1) ∙ c.requires.2;
    }
