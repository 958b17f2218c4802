-- The list of the values of a function below a number.
use Rattle.std.specs.Prelude.{◌≡◌, ◌<◌, ℕ, List, length, map, slice_index_or}
use Rattle.std.proofs.Common.{sym, ◌∙◌, zero-add}
use Rattle.std.proofs.lemmas.List.{ext_get_or}
use Rattle.std.proofs.lemmas.List.FromFn.{get_or-map-range_with_len, length-map-range_with_len}
use Rattle.std.specs.List.{range_with_len}

-- the list of f k for each k below n
abbrev pub tabulate : {A : Type 0} → ℕ → (ℕ → A) → List A
tabulate n f = map f (range_with_len 0 n)

module _ {A : Type 0} (n : ℕ) (f : ℕ → A) where
  pub length-tabulate : length (tabulate n f) ≡ n
  length-tabulate = length-map-range_with_len f 0 n

  pub get_or-tabulate : (k : ℕ) (d : A) → k < n → slice_index_or (tabulate n f) k d ≡ f k
  get_or-tabulate k d h = get_or-map-range_with_len f 0 n k k d h (zero-add k)

  -- a list of n is that of its entries
  pub tabulate-entries : (d : A) (xs : List A) → length xs ≡ n → ((k : ℕ) → k < n → f k ≡ slice_index_or xs k d) → tabulate n f ≡ xs
  tabulate-entries d xs h at =
      ext_get_or d (tabulate n f) xs (length-tabulate ∙ sym h)
      (λ k q. let below : k < n = rw (sym length-tabulate) q in get_or-tabulate k d below ∙ at k below)
