-- Lines as they are read one by one, and bytes as they are written one after the other.
use Rattle.std.proofs.Common.{◌≡◌, ◌≢◌, ℕ, suc, ◌+◌, ◌-◌, ◌≤◌, Bool, ◌&&◌, ltb, true, false, eqb, cond, List, [], ◌∷◌, ◌++◌, length, take, get_or, Option, None, Some, IfSome, Result, Ok, Err, OnOk, refl, sym, ap, ◌∙◌, subst, arith, append_assoc}
use Rattle.std.proofs.lemmas.Bool.{lt-ltb}
use Rattle.std.specs.Io.BufRead.{drop_through, take_through, strip_last, first_piece, DropsThrough}
use Rattle.std.specs.Io.KnownBytes.{Appends}
use Rattle.mlu_replay_lines.specs.Counts.{Agrees, AllAgree, IsCase, first_word, lines_of, with_byte}
use Rattle.mlu_replay_lines.specs.Counts.{Grows, TellsDiffering, differ_line}

-- so many lines were read, and where none was told those that are left make all agree
abbrev pub HasRead : (List ℕ → List ℕ → Type 0) → Option (List ℕ) → Option (List ℕ) → ℕ → ℕ → Type 0
HasRead gives old now lines told =
    IfSome old (λ bytes.
    (left : List ℕ) × (now ≡ Some left) × (length (lines_of bytes) ≡ lines + length (lines_of left)) × (told ≡ 0 → AllAgree gives (lines_of left) → AllAgree gives (lines_of bytes)))

-- bytes of which the last one is known by its place
strip_last-at : (bytes : List ℕ) (k : ℕ) → length bytes ≡ suc k → strip_last 10 bytes ≡ cond (eqb (get_or bytes k 0) 10) (take k bytes) bytes
strip_last-at bytes k long =
    let last : suc k - 1 ≡ k = omega arith in
    ap (λ n. cond (ltb 0 n && eqb (get_or bytes (n - 1) 0) 10) (take (n - 1) bytes) bytes) long
    ∙ ap (λ t. cond (t && eqb (get_or bytes (suc k - 1) 0) 10) (take (suc k - 1) bytes) bytes) (lt-ltb 0 (suc k) (omega arith))
    ∙ ap (λ j. cond (eqb (get_or bytes j 0) 10) (take j bytes) bytes) last

strip_last-one : (byte : ℕ) → strip_last 10 (byte ∷ []) ≡ cond (eqb byte 10) [] (byte ∷ [])
strip_last-one byte = strip_last-at (byte ∷ []) 0 refl

-- a byte with more bytes behind it
strip_last-more : (byte next : ℕ) (rest : List ℕ) → strip_last 10 (byte ∷ next ∷ rest) ≡ byte ∷ strip_last 10 (next ∷ rest)
strip_last-more byte next rest =
    strip_last-at (byte ∷ next ∷ rest) (suc (length rest)) refl
    ∙ by_end (eqb (get_or (next ∷ rest) (length rest) 0) 10)
    ∙ sym (ap (λ l. byte ∷ l) (strip_last-at (next ∷ rest) (length rest) refl))
  where
    by_end : (ends : Bool) → cond ends (byte ∷ take (length rest) (next ∷ rest)) (byte ∷ next ∷ rest) ≡ byte ∷ cond ends (take (length rest) (next ∷ rest)) (next ∷ rest)
    by_end true = refl
    by_end false = refl

-- the piece before the first line feed is the first line, and what is behind it has the others
lines_of-through : (bytes : List ℕ) → bytes ≢ [] → lines_of bytes ≡ first_piece 10 bytes ∷ lines_of (drop_through 10 bytes)
lines_of-through [] some = absurd (some refl)
lines_of-through (byte ∷ []) some = by_byte (eqb byte 10) refl
  where
    by_byte : (feed : Bool) → eqb byte 10 ≡ feed → cond feed ([] ∷ []) ((byte ∷ []) ∷ []) ≡ strip_last 10 (cond feed (byte ∷ []) (byte ∷ [])) ∷ lines_of (cond feed [] [])
    by_byte true is = ap (λ l. l ∷ []) (sym (strip_last-one byte ∙ ap (λ t. cond t [] (byte ∷ [])) is))
    by_byte false is = ap (λ l. l ∷ []) (sym (strip_last-one byte ∙ ap (λ t. cond t [] (byte ∷ [])) is))
lines_of-through (byte ∷ next ∷ rest) some = by_byte (eqb byte 10) refl (lines_of-through (next ∷ rest) (λ e. cc))
  where
    first_more : (feed : Bool) → strip_last 10 (byte ∷ cond feed (next ∷ []) (next ∷ take_through 10 rest)) ≡ byte ∷ strip_last 10 (cond feed (next ∷ []) (next ∷ take_through 10 rest))
    first_more true = strip_last-more byte next []
    first_more false = strip_last-more byte next (take_through 10 rest)

    by_byte : (feed : Bool) → eqb byte 10 ≡ feed → lines_of (next ∷ rest) ≡ first_piece 10 (next ∷ rest) ∷ lines_of (drop_through 10 (next ∷ rest))
        → cond feed ([] ∷ lines_of (next ∷ rest)) (with_byte byte (lines_of (next ∷ rest)))
        ≡ strip_last 10 (cond feed (byte ∷ []) (byte ∷ take_through 10 (next ∷ rest))) ∷ lines_of (cond feed (next ∷ rest) (drop_through 10 (next ∷ rest)))
    by_byte true is later = ap (λ l. l ∷ lines_of (next ∷ rest)) (sym (strip_last-one byte ∙ ap (λ t. cond t [] (byte ∷ [])) is))
    by_byte false is later = ap (with_byte byte) later ∙ ap (λ l. l ∷ lines_of (drop_through 10 (next ∷ rest))) (sym (first_more (eqb next 10)))

-- one line more, which agrees where it is not told
pub HasRead-line : (gives : List ℕ → List ℕ → Type 0) (old now next : Option (List ℕ)) (line : List ℕ) (lines told more : ℕ) → HasRead gives old now lines told
    → DropsThrough now next 10 → IfSome now (λ bytes. bytes ≢ []) → IfSome now (λ bytes. line ≡ first_piece 10 bytes)
    → told ≤ more → (more ≡ told → Agrees gives line) → HasRead gives old next (lines + 1) more
HasRead-line gives None now next line lines told more read drops some is grown agrees = tt
HasRead-line gives (Some bytes) now next line lines told more (left, at, counted, all) drops some is grown agrees =
    let here : lines_of left ≡ first_piece 10 left ∷ lines_of (drop_through 10 left) = lines_of-through left (subst (λ o. IfSome o (λ bytes. bytes ≢ [])) at some) in
    let first : line ≡ first_piece 10 left = subst (λ o. IfSome o (λ bytes. line ≡ first_piece 10 bytes)) at is in
    let fewer : length (lines_of left) ≡ suc (length (lines_of (drop_through 10 left))) = ap length here in (
      drop_through 10 left,
      subst (λ o. DropsThrough o next 10) at drops,
      omega (arith, counted, fewer),
      λ none later.
          let before : told ≡ 0 = omega (arith, none, grown) in
          all before (subst (AllAgree gives) (sym here) (subst (Agrees gives) first (agrees (none ∙ sym before)), later)),
    )

pub Grows-on : (old now next : Option (List ℕ)) → Grows old now → Grows now next → Grows old next
Grows-on None now next first then = ([], tt)
Grows-on (Some xs) None next first then = absurd first.1
Grows-on (Some xs) (Some ys) None first then = absurd then.1
Grows-on (Some xs) (Some ys) (Some zs) first then = (first.0 ++ then.0, then.1 ∙ ap (λ l. l ++ then.0) first.1 ∙ append_assoc xs first.0 then.0)

-- a line whose answer was written as another
pub TellsDiffering-written : {T E : Type 0} (Q : Type 0) (result : Result T E) (gives : List ℕ → List ℕ → Type 0) (number : ℕ) (line asked given answer : List ℕ) (old new : Option (List ℕ))
    → IsCase line asked given → gives asked answer → given ≢ answer → OnOk result (Appends old new (differ_line number (first_word asked) given answer)) → OnOk result (Q → TellsDiffering gives number line old new)
TellsDiffering-written Q (Ok x) gives number line asked given answer old new parts answers differ written = λ _. (asked, given, answer, parts, answers, differ, written)
TellsDiffering-written Q (Err e) gives number line asked given answer old new parts answers differ written = tt
