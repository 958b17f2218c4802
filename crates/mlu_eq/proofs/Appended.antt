-- Entries that were appended to a `Vec` with room for them.
use Rattle.std.proofs.Common.{◌≡◌, ℕ, ◌+◌, ◌*◌, ◌<◌, ◌≤◌, List, [], ◌∷◌, ◌++◌, length, map, take, get_or, refl, sym, ap, ◌∙◌, append_assoc, append-nil, arith}
use Rattle.std.specs.Vec.{vec_capacity, vec_items, vec_len}
use Rattle.std.specs.declared.vec.Vec.{Vec}
use Rattle.mlu_ring.specs.Ring.{Ring}
use Rattle.mlu_ring.proofs.Rows.{row_end}
use Rattle.mlu_eq.specs.Split.{contents}
use Rattle.mlu_eq.proofs.Contents.{contents-none, contents-take_more}

module _ {A Z : Type 0} where
  -- the entries that the new one has after those of the old one, and how many these are
  abbrev pub Appended : Vec A Z → Vec A Z → List A → ℕ → Type 0
  Appended old new xs n = record {
    items : vec_items new ≡ vec_items old ++ xs;
    len : vec_len new ≡ vec_len old + n;
    capacity : vec_capacity new ≡ vec_capacity old;
  }

  -- more entries after some
  pub appended-more : (old before after : Vec A Z) (xs ys zs : List A) (m n k : ℕ) → Appended old before xs m
      → Appended before after ys n → zs ≡ xs ++ ys → k ≡ m + n → Appended old after zs k
  appended-more old before after xs ys zs m n k so_far more all many = record {
    items = more.items ∙ ap (λ l. l ++ ys) so_far.items ∙ append_assoc (vec_items old) xs ys ∙ ap (λ l. vec_items old ++ l) (sym all);
    len = more.len ∙ ap (λ l. l + n) so_far.len ∙ omega (arith, many);
    capacity = more.capacity ∙ so_far.capacity;
  }

  -- one entry more
  pub appended-one : (old before after : Vec A Z) (xs zs : List A) (x y : A) (i : ℕ) → Appended old before xs i
      → vec_items after ≡ vec_items before ++ x ∷ [] → vec_len after ≡ vec_len before + 1 → vec_capacity after ≡ vec_capacity before
      → x ≡ y → zs ≡ xs ++ y ∷ [] → Appended old after zs (i + 1)
  appended-one old before after xs zs x y i so_far pushed longer room is all =
      appended-more old before after xs (x ∷ []) zs i 1 (i + 1) so_far (record { items = pushed; len = longer; capacity = room })
      (all ∙ ap (λ z. xs ++ z ∷ []) (sym is)) (omega arith)

  -- after some of m rows of n entries there is room for one more
  pub room_for_row : (old before : Vec A Z) (xs : List A) (m i n : ℕ) → i < m → vec_len old + m * n ≤ vec_capacity old
      → Appended old before xs (i * n) → vec_len before + n ≤ vec_capacity before
  room_for_row old before xs m i n h room so_far =
      omega (arith, row_end i m n (m * n) h refl, room, so_far.len, so_far.capacity)

-- the rows of a table in two halves, of n entries each
module _ {R Z : Type 0} (ring : Ring R) (old before : Vec R Z) (eq0 w : List R) (n : ℕ) where
  pub no_rows_appended : Appended old old (contents ring [] w) (0 * n)
  no_rows_appended = record {
    items = sym (ap (λ l. vec_items old ++ l) (contents-none ring w) ∙ append-nil (vec_items old));
    len = omega arith;
    capacity = refl;
  }

  pub row_appended : (after : Vec R Z) (i : ℕ) (x : R) → i < length eq0 → x ≡ get_or eq0 i x → Appended old before (contents ring (take i eq0) w) (i * n)
      → Appended before after (map (ring.product x) w) n → Appended old after (contents ring (take (i + 1) eq0) w) ((i + 1) * n)
  row_appended after i x h at_x so_far more =
      appended-more old before after _ _ _ (i * n) n ((i + 1) * n) so_far more (contents-take_more ring eq0 w i x h at_x) (omega arith)
