-- The rows of transposed points, joined.
use Rattle.std.proofs.Common.{◌≡◌, ℕ, ◌+◌, ◌*◌, ◌-◌, ◌<◌, Bool, List, [], ◌∷◌, ◌++◌, length, map, take, get_or, sym, ap, ◌∙◌, arith, length-append, append_assoc}
use Rattle.std.specs.Prelude.{flat_map, if◌then◌else◌}
use Rattle.std.specs.List.{range_with_len}
use Rattle.std.proofs.lemmas.Grind.{flat_map-append}
use Rattle.std.proofs.lemmas.List.{append-nil, map_more, get_or_read, get_or_default}
use Rattle.std.proofs.lemmas.List.FromFn.{map-range_with_len_more}
use Rattle.mlu_ring.specs.Ring.{Ring}
use Rattle.mlu_ring.specs.Matrices.{dimension, transposed}

-- the first j rows, joined
abbrev pub joined : {X : Type 0} → (ℕ → List X) → ℕ → List X
joined rows j = flat_map (λ row. row) (map rows (range_with_len 0 j))

pub joined-more : {X : Type 0} (rows : ℕ → List X) (j : ℕ) (before after : List X) → before ≡ joined rows j → after ≡ before ++ rows j → after ≡ joined rows (j + 1)
joined-more rows j before after is made =
    let last : joined rows (j + 1) ≡ joined rows j ++ (rows j ++ []) =
    ap (λ l. flat_map (λ row. row) l) (map-range_with_len_more rows 0 j j (omega arith)) ∙ flat_map-append (λ row. row) (map rows (range_with_len 0 j)) (rows j ∷ []) in
    made ∙ ap (λ l. l ++ rows j) is ∙ sym (last ∙ ap (λ l. joined rows j ++ l) (append-nil (rows j)))

-- one row more of so many values
pub rows-size : {X : Type 0} (before row after : List X) (j n : ℕ) → length before ≡ j * n → length row ≡ n → after ≡ before ++ row → length after ≡ (j + 1) * n
rows-size before row after j n size long made = ap length made ∙ omega (arith, length-append before row, size, long)

-- the first of the points has the dimension
pub first-dimension : {X : Type 0} (points : List (List X)) (p : List X) → 0 < length points → p ≡ get_or points 0 p → length p ≡ dimension points
first-dimension [] p h at = absurd (omega arith)
first-dimension (q ∷ points) p h at = ap length at

-- one more place read, of the point at i
pub pushed-more : {X : Type 0} (z : X) (points : List (List X)) (place i : ℕ) (p : List X) (x : X) (start items after : List X) → i < length points
    → ((k : ℕ) → k < length points → place < length (get_or points k [])) → p ≡ get_or points i p → x ≡ get_or p place x
    → items ≡ start ++ map (λ q. get_or q place z) (take i points) → after ≡ items ++ x ∷ [] → after ≡ start ++ map (λ q. get_or q place z) (take (i + 1) points)
pushed-more z points place i p x start items after h bound at read before made =
    let here : get_or points i [] ≡ p = get_or_default points i [] p h ∙ sym at in
    let within : place < length p = omega (arith, bound i h, ap length here) in
    let value : x ≡ get_or (get_or points i []) place z = get_or_read p place x within read z ∙ ap (λ q. get_or q place z) (sym here) in
    made
    ∙ ap (λ l. l ++ x ∷ []) before
    ∙ append_assoc start (map (λ q. get_or q place z) (take i points)) (x ∷ [])
    ∙ ap (λ y. start ++ (map (λ q. get_or q place z) (take i points) ++ y ∷ [])) value
    ∙ ap (λ l. start ++ l) (sym (map_more (λ q. get_or q place z) points i [] h))

module _ {R : Type 0} (ring : Ring R) where
  -- row j of the transposed points, which have k coordinates
  abbrev pub row_of : List (List R) → Bool → ℕ → ℕ → List R
  row_of points reversed k j = map (λ p. get_or p (if reversed then k - 1 - j else j) ring.zero) points

  pub joined-transposed : (points : List (List R)) (reversed : Bool) (k j : ℕ) (values : List R) → k ≡ dimension points → j ≡ k → values ≡ joined (row_of points reversed k) j → values ≡ flat_map (λ row. row) (transposed ring points reversed)
  unfolding transposed
  joined-transposed points reversed k j values size all is =
      is ∙ ap (λ n. joined (row_of points reversed k) n) (all ∙ size) ∙ ap (λ n. joined (row_of points reversed n) (dimension points)) size
