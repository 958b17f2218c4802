-- A list that a loop fills place by place.
use Rattle.std.proofs.Common.{◌≡◌, ◌<◌, ◌≤◌, ◌≢◌, ◌+◌, ℕ, zero, suc, List, [], ◌∷◌, length, map, get_or, set, refl, sym, ap, ◌∙◌, arith, get_or-set_other, get_or-set_same, length-set, below_more, subst, lit<}
use Rattle.std.proofs.lemmas.List.{ext_get_or, get_or-map, get_or_default}

module _ {A : Type 0} (d : A) where
  -- below n the list xs has the entries that f gives
  abbrev pub IsFilledBy : List A → (ℕ → A) → ℕ → Type 0
  IsFilledBy xs f n = (k : ℕ) → k < n → get_or xs k d ≡ f k

  pub filled_by_next : (xs : List A) (f : ℕ → A) (n : ℕ) (x : A) → n < length xs → IsFilledBy xs f n → x ≡ f n → IsFilledBy (set xs n x) f (n + 1)
  filled_by_next xs f n x room done e =
      below_more _ _
      (λ k h. let other : k ≢ n = omega arith in get_or-set_other xs n k x d other ∙ done k h)
      (get_or-set_same xs n x d room ∙ e)

  -- four places more, which the list ys has
  pub filled_by_four : (xs ys : List A) (f : ℕ → A) (n m : ℕ) → m ≡ n + 4 → IsFilledBy xs f n → ((k : ℕ) → k < n → get_or ys k d ≡ get_or xs k d)
      → ((j : ℕ) → j < 4 → get_or ys (n + j) d ≡ f (n + j)) → IsFilledBy ys f m
  filled_by_four xs ys f n m end done before four =
      let first : n + 0 ≡ n = omega arith in
      let upto_one : IsFilledBy ys f (n + 1) = below_more _ n (λ k h. before k h ∙ done k h) (subst (λ i. get_or ys i d ≡ f i) first (four 0 (lit< tt))) in
      let upto_two : IsFilledBy ys f (n + 1 + 1) = below_more _ (n + 1) upto_one (four 1 (lit< tt)) in
      let upto_three : IsFilledBy ys f (n + 2 + 1) = below_more _ (n + 2) (λ k h. upto_two k (omega arith)) (four 2 (lit< tt)) in
      let upto_four : IsFilledBy ys f (n + 3 + 1) = below_more _ (n + 3) (λ k h. upto_three k (omega arith)) (four 3 (lit< tt)) in
      λ k h. upto_four k (omega (arith, end))

  -- or those of ys
  abbrev pub IsFilled : List A → List A → ℕ → Type 0
  IsFilled xs ys n = (k : ℕ) → k < n → get_or xs k d ≡ get_or ys k d

  pub filled_next : (xs ys : List A) (n : ℕ) (x : A) → n < length xs → IsFilled xs ys n → x ≡ get_or ys n d → IsFilled (set xs n x) ys (n + 1)
  filled_next xs ys n x room done e = filled_by_next xs (λ k. get_or ys k d) n x room done e

  pub filled_four_next : (xs ys : List A) (n m : ℕ) (a b c e : A) → m ≡ n + 4 → n + 3 < length xs → IsFilled xs ys n
      → a ≡ get_or ys n d → b ≡ get_or ys (n + 1) d → c ≡ get_or ys (n + 2) d → e ≡ get_or ys (n + 3) d
      → IsFilled (set (set (set (set xs n a) (n + 1) b) (n + 2) c) (n + 3) e) ys m
  filled_four_next xs ys n m a b c e end room done is_a is_b is_c is_e =
      let first = length-set xs n a in
      let second = length-set (set xs n a) (n + 1) b in
      let third = length-set (set (set xs n a) (n + 1) b) (n + 2) c in
      let one = filled_next xs ys n a (omega (arith, room)) done is_a in
      let two = filled_next (set xs n a) ys (n + 1) b (omega (arith, room, first)) one is_b in
      let three = filled_next (set (set xs n a) (n + 1) b) ys (n + 2) c (omega (arith, room, first, second)) (λ i h. two i (omega arith)) is_c in
      let four = filled_next (set (set (set xs n a) (n + 1) b) (n + 2) c) ys (n + 3) e (omega (arith, room, first, second, third)) (λ i h. three i (omega arith)) is_e in
      λ i h. four i (omega (arith, end))

  pub filled_whole : (xs ys : List A) (n : ℕ) → length xs ≤ n → length xs ≡ length ys → IsFilled xs ys n → xs ≡ ys
  filled_whole xs ys n h e done = ext_get_or d xs ys e (λ k below. done k (omega arith))

  -- what is read of a list, at another default
  pub read_default : (xs ys : List A) (i : ℕ) (x : A) → i < length xs → x ≡ get_or xs i x → xs ≡ ys → x ≡ get_or ys i d
  read_default xs ys i x h is e = is ∙ get_or_default xs i x d h ∙ ap (λ l. get_or l i d) e

-- the image of what is read of a list
pub read_image : {E A : Type 0} (f : E → A) (xs : List E) (i : ℕ) (x : E) (d : A) → i < length xs → x ≡ get_or xs i x → f x ≡ get_or (map f xs) i d
read_image f xs i x d h is = ap f is ∙ sym (get_or-map f xs i x d h)

-- four places, written one after the other
pub written : {B : Type 0} (l : List B) (a b c d : B) → length l ≡ 4 → set (set (set (set l 0 a) 1 b) 2 c) 3 d ≡ a ∷ b ∷ c ∷ d ∷ []
written (p ∷ q ∷ u ∷ v ∷ []) a b c d long = refl
written [] a b c d long = absurd (omega arith)
written (p ∷ []) a b c d long = absurd (omega arith)
written (p ∷ q ∷ []) a b c d long = absurd (omega arith)
written (p ∷ q ∷ u ∷ []) a b c d long = absurd (omega arith)
written (p ∷ q ∷ u ∷ v ∷ w ∷ l) a b c d long = absurd (omega arith)

-- what is read of a list of four
pub four-at : {B : Type 0} (l : List B) (a b c d z : B) (g : ℕ → B) → l ≡ a ∷ b ∷ c ∷ d ∷ [] → a ≡ g 0 → b ≡ g 1 → c ≡ g 2 → d ≡ g 3 → (j : ℕ) → j < 4 → get_or l j z ≡ g j
four-at l a b c d z g is at_0 at_1 at_2 at_3 j h = ap (λ xs. get_or xs j z) is ∙ each j h
  where
    each : (j : ℕ) → j < 4 → get_or (a ∷ b ∷ c ∷ d ∷ []) j z ≡ g j
    each zero h = at_0
    each (suc zero) h = at_1
    each (suc (suc zero)) h = at_2
    each (suc (suc (suc zero))) h = at_3
    each (suc (suc (suc (suc j)))) h = absurd (omega arith)
