-- A function of two lists, place by place, and what a loop leaves that writes it over the first.
use Rattle.std.proofs.Common.{◌≡◌, ℕ, zero, suc, ◌<◌, ◌≤◌, ◌+◌, List, [], ◌∷◌, ◌++◌, length, take, drop, set, get_or, ap, refl, ◌∙◌, arith, zero-add, suc-add, add-one}
use Rattle.std.specs.Simd.Lanes.{zip2}

module _ {A B : Type 0} (f : A → B → A) where
  -- two lists in two parts
  pub zip2-append : (us vs : List A) (xs ys : List B) → length us ≡ length xs → zip2 f (us ++ vs) (xs ++ ys) ≡ zip2 f us xs ++ zip2 f vs ys
  zip2-append [] vs [] ys h = refl
  zip2-append [] vs (x ∷ xs) ys h = absurd (omega arith)
  zip2-append (u ∷ us) vs [] ys h = absurd (omega arith)
  zip2-append (u ∷ us) vs (x ∷ xs) ys h = ap (λ zs. f u x ∷ zs) (zip2-append us vs xs ys (omega arith))

  zip-set : (xs : List A) (ys : List B) (i : ℕ) (c : A) (d : B) → i < length xs → length xs ≡ length ys → set (zip2 f (take i xs) (take i ys) ++ drop i xs) i (f (get_or (zip2 f (take i xs) (take i ys) ++ drop i xs) i c) (get_or ys i d)) ≡ zip2 f (take (suc i) xs) (take (suc i) ys) ++ drop (suc i) xs
  zip-set (x ∷ xs) (y ∷ ys) zero c d h e = refl
  zip-set (x ∷ xs) (y ∷ ys) (suc i) c d h e = ap (λ zs. f x y ∷ zs) (zip-set xs ys i c d (omega arith) (omega arith))
  zip-set (x ∷ xs) [] i c d h e = absurd (omega arith)
  zip-set [] ys i c d h e = absurd (omega arith)

  -- the loop at place i: x and y are the entries there, and r is written
  pub zip_step : (xs : List A) (ys : List B) (out : List A) (i : ℕ) (x : A) (y : B) (r : A) → i < length xs → length xs ≡ length ys → out ≡ zip2 f (take i xs) (take i ys) ++ drop i xs → x ≡ get_or out i x → y ≡ get_or ys i y → r ≡ f x y → set out i r ≡ zip2 f (take (i + 1) xs) (take (i + 1) ys) ++ drop (i + 1) xs
  zip_step xs ys out i x y r h e is at_x at_y made =
      rw add-one
      (ap (λ v. set out i v) (made ∙ ap (λ a. f a y) at_x ∙ ap (λ b. f (get_or out i x) b) at_y)
      ∙ ap (λ l. set l i (f (get_or l i x) (get_or ys i y))) is
      ∙ zip-set xs ys i x y h e)

  pub zip_whole : (xs : List A) (ys : List B) (n : ℕ) → length xs ≡ n → length xs ≡ length ys → zip2 f (take n xs) (take n ys) ++ drop n xs ≡ zip2 f xs ys
  zip_whole [] [] zero h e = refl
  zip_whole [] [] (suc n) h e = refl
  zip_whole [] (y ∷ ys) n h e = absurd (omega arith)
  zip_whole (x ∷ xs) [] n h e = absurd (omega arith)
  zip_whole (x ∷ xs) (y ∷ ys) zero h e = absurd (omega arith)
  zip_whole (x ∷ xs) (y ∷ ys) (suc n) h e = ap (λ zs. f x y ∷ zs) (zip_whole xs ys n (omega arith) (omega arith))

  -- n more places
  pub zip_more : (xs : List A) (ys : List B) (m n : ℕ) → m + n ≤ length xs → length xs ≡ length ys
      → take m (zip2 f (take m xs) (take m ys) ++ drop m xs) ++ (zip2 f (take n (drop m (zip2 f (take m xs) (take m ys) ++ drop m xs))) (take n (drop m ys)) ++ drop (m + n) (zip2 f (take m xs) (take m ys) ++ drop m xs))
      ≡ zip2 f (take (m + n) xs) (take (m + n) ys) ++ drop (m + n) xs
  zip_more xs ys zero n h e = rw zero-add refl
  zip_more [] ys (suc m) n h e = absurd (omega arith)
  zip_more (x ∷ xs) [] (suc m) n h e = absurd (omega arith)
  zip_more (x ∷ xs) (y ∷ ys) (suc m) n h e = rw suc-add (ap (λ zs. f x y ∷ zs) (zip_more xs ys m n (omega arith) (omega arith)))
