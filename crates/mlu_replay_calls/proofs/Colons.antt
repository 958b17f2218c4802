-- Coefficients between colons.
use Rattle.std.proofs.Common.{◌≡◌, ◌⊎◌, ◌==◌, ℕ, ◌<◌, false, List, [], ◌∷◌, ◌++◌, length, get_or, refl, sym, ap, ◌∙◌, subst, arith, ne_eqb, inl, inr, Result, Ok, Err, IfOk}
use Rattle.std.specs.List.{All, join_with_byte, slice_split}
use Rattle.std.proofs.lemmas.List.{get_or_default}
use Rattle.std.proofs.lemmas.List.Splits.{slice_split_none, slice_split_at}
use Rattle.std.proofs.lemmas.Str.Parse.{digit_at}
use Rattle.mlu_lanes.specs.BabyBear.{canonical, canonical_below}
use Rattle.mlu_lanes.specs.declared.baby_bear.BabyBear.{BabyBear}
use Rattle.mlu_ext.specs.Product.{diagonal, entries_of, same_entries}
use Rattle.mlu_ext.specs.declared.product.ProductAlgebra.{ProductAlgebra}
use Rattle.mlu_replay_calls.specs.Elements.{AreCoefficients, EachStands, IsImage, IsResidue, IsWrittenBetween}
use Rattle.mlu_replay_calls.proofs.Lists.{EachStands-length}
use Rattle.mlu_replay_calls.proofs.Parsing.{decimal-all_digits}

no_colon : {W : ℕ} (word : List ℕ) (x : BabyBear W) → IsResidue word x → All (λ byte. (byte == 58) ≡ false) word
no_colon word x is k d within =
    let digits = decimal-all_digits (canonical x) (omega (arith, canonical_below x)) word is in
    ne_eqb (get_or word k d) 58 (λ colon. omega (arith, colon, get_or_default word k d 0 within, (digit_at word k digits within).1))

-- what is joined splits again
slice_split-join : {W : ℕ} (words : List (List ℕ)) (xs : List (BabyBear W)) → 0 < length words → EachStands IsResidue words xs
    → slice_split (λ byte. byte == 58) (join_with_byte 58 words) ≡ words
slice_split-join [] xs some each = absurd (omega (arith, some))
slice_split-join (w ∷ ws) [] some each = absurd each
slice_split-join (w ∷ []) (x ∷ xs) some each = slice_split_none (λ byte. byte == 58) w (no_colon w x each.0)
slice_split-join (w ∷ v ∷ vs) (x ∷ xs) some each =
    slice_split_at (λ byte. byte == 58) w 58 (join_with_byte 58 (v ∷ vs)) (no_colon w x each.0) refl ∙ ap (λ l. w ∷ l) (slice_split-join (v ∷ vs) xs (omega arith) each.1)

no_entries : {A : Type 0} (xs ys : List A) → length xs ≡ 0 → length ys ≡ 0 → xs ≡ ys
no_entries [] [] none none' = refl
no_entries [] (y ∷ ys) none none' = absurd (omega (arith, none'))
no_entries (x ∷ xs) ys none none' = absurd (omega (arith, none))

module _ {W : ℕ} {T E : Type 0} (old new : List ℕ) where
  -- coefficients that were written
  pub coefficients-written : (P : List ℕ → Type 0) (xs : List (BabyBear W)) → 0 < length xs → (result : Result T E) → IfOk result (λ _. IsWrittenBetween IsResidue 58 old new xs)
      → IfOk result (λ _. (word : List ℕ) × (AreCoefficients word xs ⊎ P word) × (new ≡ old ++ word))
  coefficients-written P xs some (Err e) written = tt
  coefficients-written P xs some (Ok y) (words, each, is) =
      let size : length words ≡ length xs = EachStands-length IsResidue words xs each in
      let same = slice_split-join words xs (omega (arith, size, some)) each in
      (join_with_byte 58 words, inl (subst (λ parts. EachStands IsResidue parts xs) (sym same) each), is)

  -- without entries, any residue stands for the product
  pub residue-written : (D : ℕ) (x : ProductAlgebra (BabyBear W) D) (c : BabyBear W) → D ≡ 0 → (result : Result T E) → IfOk result (λ _. (word : List ℕ) × IsResidue word c × (new ≡ old ++ word))
      → IfOk result (λ _. (word : List ℕ) × (AreCoefficients word (entries_of x) ⊎ IsImage (diagonal D) word x) × (new ≡ old ++ word))
  residue-written D x c none (Err e) written = tt
  residue-written D x c none (Ok y) (word, is, appended) =
      let copies = diagonal D c in
      (word, inr (c, is, same_entries D x copies (no_entries (entries_of x) (entries_of copies) (x.copies.full ∙ none) (copies.copies.full ∙ none))), appended)
