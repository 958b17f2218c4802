-- The laws of an operation, entry by entry, on lists of one length.
use Rattle.std.specs.Prelude.{◌≡◌, ℕ, List, [], ◌∷◌, length, map, replicate}
use Rattle.std.proofs.Common.{zero, suc, ap, refl, arith}
use Rattle.std.specs.Simd.Lanes.{zip2}

cons2 : {A : Type 0} (x y : A) (xs ys : List A) → x ≡ y → xs ≡ ys → (x ∷ xs) ≡ (y ∷ ys)
cons2 x y xs ys e f = λ i. e i ∷ f i

module _ {A : Type 0} where
  pub zip-comm : (f : A → A → A) → ((x y : A) → f x y ≡ f y x) → (xs ys : List A) → zip2 f xs ys ≡ zip2 f ys xs
  zip-comm f h [] [] = refl
  zip-comm f h [] (y ∷ ys) = refl
  zip-comm f h (x ∷ xs) [] = refl
  zip-comm f h (x ∷ xs) (y ∷ ys) = cons2 _ _ _ _ (h x y) (zip-comm f h xs ys)

  pub zip-assoc : (f : A → A → A) → ((x y z : A) → f (f x y) z ≡ f x (f y z)) → (xs ys zs : List A) → zip2 f (zip2 f xs ys) zs ≡ zip2 f xs (zip2 f ys zs)
  zip-assoc f h [] ys zs = refl
  zip-assoc f h (x ∷ xs) [] zs = refl
  zip-assoc f h (x ∷ xs) (y ∷ ys) [] = refl
  zip-assoc f h (x ∷ xs) (y ∷ ys) (z ∷ zs) = cons2 _ _ _ _ (h x y z) (zip-assoc f h xs ys zs)

  pub zip-unit : (f : A → A → A) (u : A) → ((x : A) → f u x ≡ x) → (n : ℕ) (xs : List A) → length xs ≡ n → zip2 f (replicate n u) xs ≡ xs
  zip-unit f u h zero [] e = refl
  zip-unit f u h (suc n) [] e = refl
  zip-unit f u h zero (x ∷ xs) e = absurd (omega arith)
  zip-unit f u h (suc n) (x ∷ xs) e = cons2 _ _ _ _ (h x) (zip-unit f u h n xs (omega arith))

  pub zip-inverse : (f : A → A → A) (g : A → A) (u : A) → ((x : A) → f (g x) x ≡ u) → (n : ℕ) (xs : List A) → length xs ≡ n → zip2 f (map g xs) xs ≡ replicate n u
  zip-inverse f g u h zero [] e = refl
  zip-inverse f g u h (suc n) [] e = absurd (omega arith)
  zip-inverse f g u h zero (x ∷ xs) e = absurd (omega arith)
  zip-inverse f g u h (suc n) (x ∷ xs) e = cons2 _ _ _ _ (h x) (zip-inverse f g u h n xs (omega arith))

  pub zip-map_second : (f k : A → A → A) (g : A → A) → ((x y : A) → k x y ≡ f x (g y)) → (xs ys : List A) → zip2 k xs ys ≡ zip2 f xs (map g ys)
  zip-map_second f k g h [] ys = refl
  zip-map_second f k g h (x ∷ xs) [] = refl
  zip-map_second f k g h (x ∷ xs) (y ∷ ys) = cons2 _ _ _ _ (h x y) (zip-map_second f k g h xs ys)

  pub zip-distrib : (f p : A → A → A) → ((x y z : A) → p x (f y z) ≡ f (p x y) (p x z)) → (xs ys zs : List A) → zip2 p xs (zip2 f ys zs) ≡ zip2 f (zip2 p xs ys) (zip2 p xs zs)
  zip-distrib f p h [] ys zs = refl
  zip-distrib f p h (x ∷ xs) [] zs = refl
  zip-distrib f p h (x ∷ xs) (y ∷ ys) [] = refl
  zip-distrib f p h (x ∷ xs) (y ∷ ys) (z ∷ zs) = cons2 _ _ _ _ (h x y z) (zip-distrib f p h xs ys zs)

  pub zip-replicate : (f : A → A → A) (x y : A) (n : ℕ) → zip2 f (replicate n x) (replicate n y) ≡ replicate n (f x y)
  zip-replicate f x y zero = refl
  zip-replicate f x y (suc n) = ap (λ zs. f x y ∷ zs) (zip-replicate f x y n)

-- the images under a map
module _ {B R : Type 0} (f : B → R) where
  pub map-replicate : (x : B) (n : ℕ) → map f (replicate n x) ≡ replicate n (f x)
  map-replicate x zero = refl
  map-replicate x (suc n) = ap (λ ys. f x ∷ ys) (map-replicate x n)

  pub map-zip : (g : B → B → B) (h : R → R → R) → ((x y : B) → f (g x y) ≡ h (f x) (f y)) → (xs ys : List B) → map f (zip2 g xs ys) ≡ zip2 h (map f xs) (map f ys)
  map-zip g h e [] ys = refl
  map-zip g h e (x ∷ xs) [] = refl
  map-zip g h e (x ∷ xs) (y ∷ ys) = cons2 _ _ _ _ (e x y) (map-zip g h e xs ys)
