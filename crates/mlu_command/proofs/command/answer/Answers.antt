use Rattle.std.proofs.Common.{◌≡◌, ◌≤◌, ℕ, List, [], ◌∷◌, length, map, get_or, string_bytes, sym, ap, ◌∙◌, arith, inl}
use Rattle.mlu_command.specs.Commands.{Eval, Next, Msb, Lsb, FoldFirst, FoldLast, Routes, Sumcheck}
use Rattle.mlu_command.proofs.command.answer.Goals as goal

two : {X : Type 0} (xs : List X) (a b : X) → 2 ≤ length xs → length xs ≤ 2 → a ≡ get_or xs 0 a → b ≡ get_or xs 1 b → xs ≡ a ∷ b ∷ []
two [] a b low high at0 at1 = absurd (omega arith)
two (x ∷ []) a b low high at0 at1 = absurd (omega arith)
two (x ∷ y ∷ []) a b low high at0 at1 = cc
two (x ∷ y ∷ z ∷ more) a b low high at0 at1 = absurd (omega arith)

three : {X : Type 0} (xs : List X) (a b c : X) → 3 ≤ length xs → length xs ≤ 3 → a ≡ get_or xs 0 a → b ≡ get_or xs 1 b → c ≡ get_or xs 2 c → xs ≡ a ∷ b ∷ c ∷ []
three [] a b c low high at0 at1 at2 = absurd (omega arith)
three (x ∷ []) a b c low high at0 at1 at2 = absurd (omega arith)
three (x ∷ y ∷ []) a b c low high at0 at1 at2 = absurd (omega arith)
three (x ∷ y ∷ z ∷ []) a b c low high at0 at1 at2 = cc
three (x ∷ y ∷ z ∷ u ∷ more) a b c low high at0 at1 at2 = absurd (omega arith)

four : {X : Type 0} (xs : List X) (a b c d : X) → 4 ≤ length xs → length xs ≤ 4 → a ≡ get_or xs 0 a → b ≡ get_or xs 1 b → c ≡ get_or xs 2 c → d ≡ get_or xs 3 d → xs ≡ a ∷ b ∷ c ∷ d ∷ []
four [] a b c d low high at0 at1 at2 at3 = absurd (omega arith)
four (x ∷ []) a b c d low high at0 at1 at2 at3 = absurd (omega arith)
four (x ∷ y ∷ []) a b c d low high at0 at1 at2 at3 = absurd (omega arith)
four (x ∷ y ∷ z ∷ []) a b c d low high at0 at1 at2 at3 = absurd (omega arith)
four (x ∷ y ∷ z ∷ u ∷ []) a b c d low high at0 at1 at2 at3 = cc
four (x ∷ y ∷ z ∷ u ∷ v ∷ more) a b c d low high at0 at1 at2 at3 = absurd (omega arith)

-- the texts of a name and its operands, where the name reads as the word
module _ {X : Type 0} (text : X → List ℕ) (xs : List X) (name a : X) (read word : List ℕ) (reads : read ≡ text name) (is : read ≡ word) where
  named-two : xs ≡ name ∷ a ∷ [] → word ∷ text a ∷ [] ≡ map text xs
  named-two all = ap (λ w. w ∷ text a ∷ []) (sym is ∙ reads) ∙ sym (ap (map text) all)

  named-three : (b : X) → xs ≡ name ∷ a ∷ b ∷ [] → word ∷ text a ∷ text b ∷ [] ≡ map text xs
  named-three b all = ap (λ w. w ∷ text a ∷ text b ∷ []) (sym is ∙ reads) ∙ sym (ap (map text) all)

  named-four : (b c : X) → xs ≡ name ∷ a ∷ b ∷ c ∷ [] → word ∷ text a ∷ text b ∷ text c ∷ [] ≡ map text xs
  named-four b c all = ap (λ w. w ∷ text a ∷ text b ∷ text c ∷ []) (sym is ∙ reads) ∙ sym (ap (map text) all)

pub returns-in-msb : goal.returns-in-msb
returns-in-msb c =
    let words = two c.args.words.now c.name-item.result c.point-item.result (omega arith) (omega arith) c.name-item.is c.point-item.is in
    inl (
      Msb (string_bytes c.point-item.result),
      named-two string_bytes c.args.words.now c.name-item.result c.point-item.result _ _ c.as_str.ensures.value c.in-msb.is words,
      rw c.as_str-in-msb.ensures.value at c.msb.ensures,
    )

pub returns-in-lsb : goal.returns-in-lsb
returns-in-lsb c =
    let words = two c.args.words.now c.name-item.result c.point-item.result (omega arith) (omega arith) c.name-item.is c.point-item.is in
    inl (
      Lsb (string_bytes c.point-item.result),
      named-two string_bytes c.args.words.now c.name-item.result c.point-item.result _ _ c.as_str.ensures.value c.in-lsb.is words,
      rw c.as_str-in-lsb.ensures.value at c.lsb.ensures,
    )

pub returns-in-eval : goal.returns-in-eval
returns-in-eval c =
    let words = three c.args.words.now c.name-item-then-words-lt4.result c.table-item.result c.operand-item.result (omega arith) (omega arith) c.name-item-then-words-lt4.is c.table-item.is c.operand-item.is in
    inl (
      Eval (string_bytes c.table-item.result) (string_bytes c.operand-item.result),
      named-three string_bytes c.args.words.now c.name-item-then-words-lt4.result c.table-item.result _ _ c.as_str-in-len3.ensures.value c.in-eval.is c.operand-item.result words,
      rw (c.as_str-in-eval.ensures.value, c.as_str-in-eval-2.ensures.value) at c.eval.ensures,
    )

pub returns-in-next : goal.returns-in-next
returns-in-next c =
    let words = three c.args.words.now c.name-item-then-words-lt4.result c.table-item.result c.operand-item.result (omega arith) (omega arith) c.name-item-then-words-lt4.is c.table-item.is c.operand-item.is in
    inl (
      Next (string_bytes c.table-item.result) (string_bytes c.operand-item.result),
      named-three string_bytes c.args.words.now c.name-item-then-words-lt4.result c.table-item.result _ _ c.as_str-in-len3.ensures.value c.in-next.is c.operand-item.result words,
      rw (c.as_str-in-next.ensures.value, c.as_str-in-next-2.ensures.value) at c.next.ensures,
    )

pub returns-in-text : goal.returns-in-text
returns-in-text c =
    let words = three c.args.words.now c.name-item-then-words-lt4.result c.table-item.result c.operand-item.result (omega arith) (omega arith) c.name-item-then-words-lt4.is c.table-item.is c.operand-item.is in
    inl (
      FoldFirst (string_bytes c.table-item.result) (string_bytes c.operand-item.result),
      named-three string_bytes c.args.words.now c.name-item-then-words-lt4.result c.table-item.result _ _ c.as_str-in-len3.ensures.value c.in-text.is c.operand-item.result words,
      rw (c.as_str-in-text.ensures.value, c.as_str-in-text-2.ensures.value) at c.fold_first.ensures,
    )

pub returns-in-text-2 : goal.returns-in-text-2
returns-in-text-2 c =
    let words = three c.args.words.now c.name-item-then-words-lt4.result c.table-item.result c.operand-item.result (omega arith) (omega arith) c.name-item-then-words-lt4.is c.table-item.is c.operand-item.is in
    inl (
      FoldLast (string_bytes c.table-item.result) (string_bytes c.operand-item.result),
      named-three string_bytes c.args.words.now c.name-item-then-words-lt4.result c.table-item.result _ _ c.as_str-in-len3.ensures.value c.in-text-2.is c.operand-item.result words,
      rw (c.as_str-in-text-2-2.ensures.value, c.as_str-in-text-2-3.ensures.value) at c.fold_last.ensures,
    )

pub returns-in-routes : goal.returns-in-routes
returns-in-routes c =
    let words = three c.args.words.now c.name-item-then-words-lt4.result c.table-item.result c.operand-item.result (omega arith) (omega arith) c.name-item-then-words-lt4.is c.table-item.is c.operand-item.is in
    inl (
      Routes (string_bytes c.table-item.result) (string_bytes c.operand-item.result),
      named-three string_bytes c.args.words.now c.name-item-then-words-lt4.result c.table-item.result _ _ c.as_str-in-len3.ensures.value c.in-routes.is c.operand-item.result words,
      rw (c.as_str-in-routes.ensures.value, c.as_str-in-routes-2.ensures.value) at c.routes.ensures,
    )

pub returns-in-sumcheck : goal.returns-in-sumcheck
returns-in-sumcheck c =
    let words = four c.args.words.now c.name-item-then-words-lt5.result c.table-item-then-words-lt5.result c.point-item-then-words-lt5.result c.challenges-item.result (omega arith) (omega arith) c.name-item-then-words-lt5.is c.table-item-then-words-lt5.is c.point-item-then-words-lt5.is c.challenges-item.is in
    inl (
      Sumcheck (string_bytes c.table-item-then-words-lt5.result) (string_bytes c.point-item-then-words-lt5.result) (string_bytes c.challenges-item.result),
      named-four string_bytes c.args.words.now c.name-item-then-words-lt5.result c.table-item-then-words-lt5.result _ _ c.as_str-in-len4.ensures.value c.in-sumcheck.is c.point-item-then-words-lt5.result c.challenges-item.result words,
      rw (c.as_str-in-sumcheck.ensures.value, c.as_str-in-sumcheck-2.ensures.value, c.as_str-in-sumcheck-3.ensures.value) at c.sumcheck.ensures,
    )
