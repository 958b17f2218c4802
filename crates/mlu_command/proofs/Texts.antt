-- The text of a list, and the parts between its commas.
use Rattle.std.proofs.Common.{◌≡◌, ℕ, ◌<◌, ◌≢◌, Bool, false, eqb, List, [], ◌∷◌, ◌++◌, map, length, get_or, sym, ap, ◌∙◌, refl, arith, append_assoc}
use Rattle.std.specs.List.{slice_split, join_with_byte, All}
use Rattle.std.proofs.lemmas.List.Splits.{slice_split_none, slice_split_at, join_with_byte-slice_split, length-slice_split}
use Rattle.std.proofs.lemmas.Str.Parse.{digit_at}
use Rattle.std.proofs.lemmas.List.Elements.{All-from_get_or}
use Rattle.std.proofs.lemmas.List.{get_or-map, length-map}
use Rattle.std.proofs.lemmas.Bool.Decides.{nat_tests}
use Rattle.std.proofs.lemmas.Bool.{false≢true}
use Rattle.std.specs.Cmp.Lexicographic.{pointwise}
use Rattle.mlu_command.specs.Elements.{Element}
use Rattle.mlu_lanes.specs.BabyBear.{reduced}
use Rattle.mlu_command.specs.Words.{text, decimal_of, IsNoList}
use Rattle.mlu_command.proofs.Decimals.{decimal_of-digits, decimal_of-injective, decimal_of-first}

abbrev pub is_comma : ℕ → Bool
is_comma b = eqb b 44

-- the parts of a text between its commas
abbrev pub parts : List ℕ → List (List ℕ)
parts w = slice_split is_comma w

abbrev HasNoComma : List ℕ → Type 0
HasNoComma w = All (λ b. is_comma b ≡ false) w

HasNoComma-decimal_of : (r : Element) → HasNoComma (decimal_of r)
HasNoComma-decimal_of r =
    All-from_get_or (λ b. is_comma b ≡ false) (decimal_of r) 0
    (λ i h. let d = digit_at (decimal_of r) i (decimal_of-digits r (decimal_of r) refl) h in grind (arith, nat_tests, d))

parts-joined : (x : Element) (xs : List Element) → parts (join_with_byte 44 (map decimal_of (x ∷ xs))) ≡ map decimal_of (x ∷ xs)
parts-joined x [] = slice_split_none is_comma (decimal_of x) (HasNoComma-decimal_of x)
parts-joined x (y ∷ ys) =
    slice_split_at is_comma (decimal_of x) 44 (join_with_byte 44 (map decimal_of (y ∷ ys))) (HasNoComma-decimal_of x) refl
    ∙ ap (λ l. decimal_of x ∷ l) (parts-joined y ys)

-- the entries of a list are the parts of its text
pub parts-text : (l : List Element) (w : List ℕ) → text l ≡ w → w ≢ 45 ∷ [] → parts w ≡ map decimal_of l
parts-text [] w e ne = absurd (ne (sym e))
parts-text (x ∷ xs) w e ne = ap parts (sym e) ∙ parts-joined x xs

pub text-parts : (l : List Element) (w : List ℕ) → map decimal_of l ≡ parts w → text l ≡ w
text-parts [] w e = absurd (omega (arith, ap length e, length-slice_split is_comma w))
text-parts (x ∷ xs) w e = ap (join_with_byte 44) e ∙ join_with_byte-slice_split 44 w

-- a part that is no decimal
pub IsNoList-part : (w : List ℕ) (k : ℕ) (piece : List ℕ) → w ≢ 45 ∷ [] → k < length (parts w) → piece ≡ get_or (parts w) k piece → ((r : Element) → decimal_of r ≢ piece) → IsNoList w
IsNoList-part w k piece ne h at none l e =
    let is = parts-text l w e ne in
    let within : k < length l = omega (arith, h, ap length is, length-map l decimal_of) in
    none (get_or l k (reduced 0))
    (sym (get_or-map decimal_of l k (reduced 0) piece within) ∙ ap (λ ps. get_or ps k piece) (sym is) ∙ sym at)

-- a word of which `== "-"` is false
pub not_dash : (w : List ℕ) → false ≡ pointwise eqb w (45 ∷ []) → w ≢ 45 ∷ []
not_dash w e h = false≢true (e ∙ rw h refl)

decimals-injective : (k l : List Element) → map decimal_of k ≡ map decimal_of l → k ≡ l
decimals-injective [] [] e = refl
decimals-injective [] (y ∷ ys) e = cc
decimals-injective (x ∷ xs) [] e = cc
decimals-injective (x ∷ xs) (y ∷ ys) e =
    let first : decimal_of x ≡ decimal_of y = cc in
    let rest : map decimal_of xs ≡ map decimal_of ys = cc in
    let same = decimal_of-injective x y first in
    let all = decimals-injective xs ys rest in
    cc (same, all)

not_dash-decimals : (x : Element) (xs : List Element) → (w : List ℕ) → text (x ∷ xs) ≡ w → w ≢ 45 ∷ []
not_dash-decimals x xs w e h =
    let is : map decimal_of (x ∷ xs) ≡ (45 ∷ []) ∷ [] = sym (parts-joined x xs) ∙ ap parts (e ∙ h) in
    let first : decimal_of x ≡ 45 ∷ [] = cc in
    absurd (omega (arith, decimal_of-first x (45 ∷ []) first))

-- no two lists have one text
pub text-injective : (k l : List Element) (w : List ℕ) → text k ≡ w → text l ≡ w → k ≡ l
text-injective [] [] w e h = refl
text-injective [] (y ∷ ys) w e h = absurd (not_dash-decimals y ys w h (sym e))
text-injective (x ∷ xs) [] w e h = absurd (not_dash-decimals x xs w e (sym h))
text-injective (x ∷ xs) (y ∷ ys) w e h =
    decimals-injective (x ∷ xs) (y ∷ ys) (sym (parts-joined x xs) ∙ ap parts (e ∙ sym h) ∙ parts-joined y ys)

-- one piece more is a separator and the piece more
pub join_with_byte-more : (c : ℕ) (p : List ℕ) (ps : List (List ℕ)) (q : List ℕ) → join_with_byte c (p ∷ (ps ++ (q ∷ []))) ≡ join_with_byte c (p ∷ ps) ++ (c ∷ q)
join_with_byte-more c p [] q = refl
join_with_byte-more c p (r ∷ ps) q =
    ap (λ t. p ++ (c ∷ t)) (join_with_byte-more c r ps q)
    ∙ sym (append_assoc p (c ∷ join_with_byte c (r ∷ ps)) (c ∷ q))
