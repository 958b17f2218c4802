-- The last k entries of a list, for a loop that goes from the last entry to the first.
use Rattle.std.proofs.Common.{◌≡◌, ℕ, ◌+◌, ◌-◌, ◌<◌, ◌≤◌, List, [], ◌∷◌, length, get_or, drop, sym, ap, ◌∙◌, arith, length-drop}
use Rattle.std.proofs.lemmas.List.{drop_more, drop_all}

module _ {X : Type 0} where
  pub suffix-none : (xs : List X) → drop (length xs - 0) xs ≡ []
  suffix-none xs = drop_all (length xs - 0) xs (omega arith)

  pub suffix-more : (xs : List X) (k : ℕ) (x : X) → k < length xs → x ≡ get_or xs (length xs - 1 - k) x → drop (length xs - (k + 1)) xs ≡ x ∷ drop (length xs - k) xs
  suffix-more xs k x h at =
      let here : length xs - (k + 1) ≡ length xs - 1 - k = omega arith in
      let next : (length xs - 1 - k) + 1 ≡ length xs - k = omega arith in
      let within : length xs - 1 - k < length xs = omega arith in
      ap (λ i. drop i xs) here
      ∙ drop_more xs (length xs - 1 - k) x within
      ∙ ap (λ y. y ∷ drop ((length xs - 1 - k) + 1) xs) (sym at)
      ∙ ap (λ i. x ∷ drop i xs) next

  pub suffix-whole : (xs : List X) (k : ℕ) → length xs ≤ k → drop (length xs - k) xs ≡ xs
  suffix-whole xs k h = let none : length xs - k ≡ 0 = omega arith in ap (λ i. drop i xs) none

  pub length-suffix : (xs : List X) (k : ℕ) → k ≤ length xs → length (drop (length xs - k) xs) ≡ k
  length-suffix xs k h = omega (arith, length-drop (length xs - k) xs)
