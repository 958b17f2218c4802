-- Words of lists: their parts between separators.
use Rattle.std.proofs.Common.{◌≡◌, ◌==◌, ℕ, zero, suc, ◌+◌, ◌<◌, take, get_or, List, [], ◌∷◌, ◌++◌, length, sym, ap, ◌∙◌, subst, refl, arith, append_assoc}
use Rattle.std.specs.List.{slice_split, join_with_byte}
use Rattle.std.proofs.lemmas.List.{get_or-append-add, length-take-le, take_more}
use Rattle.std.proofs.lemmas.List.Splits.{join_with_byte-slice_split, length-slice_split}
use Rattle.mlu_replay_calls.specs.Elements.{EachStands, IsListWord, IsWrittenBetween}

-- one word more
join-more : (separator : ℕ) (words : List (List ℕ)) (word : List ℕ) → 0 < length words → join_with_byte separator (words ++ word ∷ []) ≡ join_with_byte separator words ++ separator ∷ word
join-more separator [] word some = absurd (omega (arith, some))
join-more separator (w ∷ []) word some = refl
join-more separator (w ∷ v ∷ vs) word some =
    ap (λ l. w ++ separator ∷ l) (join-more separator (v ∷ vs) word (omega arith)) ∙ sym (append_assoc w (separator ∷ join_with_byte separator (v ∷ vs)) (separator ∷ word))

-- what follows the first element
pub get_or-rest : {T : Type 0} (list : List T) (first : T) (rest : List T) (i : ℕ) (d : T) → list ≡ first ∷ rest → get_or rest i d ≡ get_or list (i + 1) d
get_or-rest list first rest i d is =
    let next : 1 + i ≡ i + 1 = omega arith in
    sym (get_or-append-add (first ∷ []) rest i d) ∙ ap (λ n. get_or (first ∷ rest) n d) next ∙ ap (λ l. get_or l (i + 1) d) (sym is)

module _ {T : Type 0} (Stands : List ℕ → T → Type 0) where
  -- one more
  pub EachStands-more : (words : List (List ℕ)) (xs : List T) (word : List ℕ) (x : T) → EachStands Stands words xs → Stands word x → EachStands Stands (words ++ word ∷ []) (xs ++ x ∷ [])
  EachStands-more [] [] word x each last = (last, tt)
  EachStands-more [] (y ∷ ys) word x each last = absurd each
  EachStands-more (w ∷ ws) [] word x each last = absurd each
  EachStands-more (w ∷ ws) (y ∷ ys) word x (first, rest) last = (first, EachStands-more ws ys word x rest last)

  -- the parts of a word stand for the elements of its list
  pub IsListWord-parts : (word : List ℕ) (words : List (List ℕ)) (xs : List T) → EachStands Stands words xs → words ≡ slice_split (λ b. b == 44) word → IsListWord Stands word xs
  IsListWord-parts word [] [] each is = absurd (omega (arith, ap length is, length-slice_split (λ b. b == 44) word))
  IsListWord-parts word (w ∷ ws) [] each is = absurd each
  IsListWord-parts word [] (x ∷ xs) each is = absurd each
  IsListWord-parts word (w ∷ ws) (x ∷ xs) each is = (w ∷ ws, each, sym (ap (join_with_byte 44) is ∙ join_with_byte-slice_split 44 word))

  pub EachStands-length : (words : List (List ℕ)) (xs : List T) → EachStands Stands words xs → length words ≡ length xs
  EachStands-length [] [] each = refl
  EachStands-length [] (x ∷ xs) each = absurd each
  EachStands-length (w ∷ ws) [] each = absurd each
  EachStands-length (w ∷ ws) (x ∷ xs) each = ap suc (EachStands-length ws xs each.1)

  -- each word stands for the element in its place
  pub EachStands-at : (words : List (List ℕ)) (xs : List T) (i : ℕ) (word : List ℕ) → EachStands Stands words xs → i < length words → word ≡ get_or words i word → (x : T) × Stands word x
  EachStands-at [] xs i word each within is = absurd (omega (arith, within))
  EachStands-at (w ∷ ws) [] i word each within is = absurd each
  EachStands-at (w ∷ ws) (x ∷ xs) zero word each within is = (x, subst (λ v. Stands v x) (sym is) each.0)
  EachStands-at (w ∷ ws) (x ∷ xs) (suc i) word each within is = EachStands-at ws xs i word each.1 (omega (arith, within)) is

  pub IsListWord-joined : (word : List ℕ) (xs : List T) → 0 < length xs → IsWrittenBetween Stands 44 [] word xs → IsListWord Stands word xs
  IsListWord-joined word [] some (words, each, is) = absurd (omega (arith, some))
  IsListWord-joined word (x ∷ xs) some (words, each, is) = (words, each, is)

  module _ (separator : ℕ) (old : List ℕ) where
    pub IsWrittenBetween-first : (x : T) (xs : List T) (new word : List ℕ) → Stands word x → new ≡ old ++ word → IsWrittenBetween Stands separator old new (take 1 (x ∷ xs))
    IsWrittenBetween-first x xs new word stands is = (word ∷ [], (stands, tt), is)

    pub IsWrittenBetween-more : (list : List T) (n : ℕ) (x : T) (text separated new word : List ℕ) → 0 < n → n < length list → x ≡ get_or list n x → IsWrittenBetween Stands separator old text (take n list) → separated ≡ text ++ separator ∷ [] → Stands word x → new ≡ separated ++ word → IsWrittenBetween Stands separator old new (take (n + 1) list)
    IsWrittenBetween-more list n x text separated new word some within at (words, each, is) pushed stands written =
        let more : take (n + 1) list ≡ take n list ++ x ∷ [] = take_more list n x within ∙ ap (λ y. take n list ++ y ∷ []) (sym at) in
        let size : length words ≡ n = EachStands-length words (take n list) each ∙ length-take-le n list (omega (arith, within)) in (
          words ++ word ∷ [],
          subst (λ l. EachStands Stands (words ++ word ∷ []) l) (sym more) (EachStands-more words (take n list) word x each stands),
          written ∙ ap (λ l. l ++ word) (pushed ∙ ap (λ l. l ++ separator ∷ []) is)
              ∙ append_assoc (old ++ join_with_byte separator words) (separator ∷ []) word
              ∙ append_assoc old (join_with_byte separator words) (separator ∷ word)
              ∙ ap (λ l. old ++ l) (sym (join-more separator words word (omega (arith, size, some)))),
        )
