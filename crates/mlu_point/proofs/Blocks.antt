-- What a loop leaves that writes the images of a list block by block.
use Rattle.std.proofs.Common.{◌≡◌, ℕ, zero, suc, ◌+◌, ◌-◌, ◌*◌, ◌<◌, ◌≤◌, List, [], ◌∷◌, ◌++◌, map, length, take, drop, ap, ◌∙◌, arith, zero-add, suc-add, refl}
use Rattle.std.proofs.lemmas.List.{drop-drop}
use Rattle.mlu_ring.proofs.Rows.{row_end}

-- the places that the loop has not reached
left_to_read : {V W : Type 0} (f : V → W) (xs : List V) (ys : List W) (m : ℕ) → m ≤ length xs → drop m (map f (take m xs) ++ ys) ≡ ys
left_to_read f xs ys zero h = refl
left_to_read f [] ys (suc m) h = absurd (omega arith)
left_to_read f (x ∷ xs) ys (suc m) h = left_to_read f xs ys m (omega arith)

-- block i of n places, as the loop reads it: the loop counts its places as v
pub block_to_read : {V : Type 0} (f : V → V) (xs out : List V) (i m v n : ℕ) → i < m → length xs ≡ m * n → v ≡ n
    → out ≡ map f (take (i * n) xs) ++ drop (i * n) xs
    → take (i * v + v - i * v) (drop (i * v) out) ≡ take n (drop (i * n) xs)
block_to_read f xs out i m v n h size same is =
    let many : i * v + v - i * v ≡ v = omega arith in
    let room = row_end i m n (length xs) h size in
    ap (λ k. take k (drop (i * v) out)) many
    ∙ ap (λ k. take k (drop (i * k) out)) same
    ∙ ap (λ vs. take n (drop (i * n) vs)) is
    ∙ ap (λ vs. take n vs) (left_to_read f xs (drop (i * n) xs) (i * n) (omega arith))

module _ {V W : Type 0} (f : V → W) where
  -- n more places
  map_block : (xs : List V) (old : List W) (m n : ℕ) → m + n ≤ length xs → length xs ≡ length old
      → take m (map f (take m xs) ++ drop m old) ++ (map f (take n (drop m xs)) ++ drop (m + n) (map f (take m xs) ++ drop m old))
      ≡ map f (take (m + n) xs) ++ drop (m + n) old
  map_block xs old zero n h e = rw zero-add refl
  map_block [] old (suc m) n h e = absurd (omega arith)
  map_block (x ∷ xs) [] (suc m) n h e = absurd (omega arith)
  map_block (x ∷ xs) (y ∷ old) (suc m) n h e = rw suc-add (ap (λ vs. f x ∷ vs) (map_block xs old m n (omega arith) (omega arith)))

  -- block i of n places, written over what the loop left: the loop counts its places as v
  pub map_block_step : (xs : List V) (old out written : List W) (i m v n : ℕ) → i < m → length xs ≡ m * n → length xs ≡ length old → v ≡ n
      → out ≡ map f (take (i * n) xs) ++ drop (i * n) old
      → written ≡ map f (take n (drop (i * n) xs))
      → take (i * v) out ++ (written ++ drop (i * v + v - i * v) (drop (i * v) out)) ≡ map f (take ((i + 1) * n) xs) ++ drop ((i + 1) * n) old
  map_block_step xs old out written i m v n h size e same is at =
      let many : i * v + v - i * v ≡ v = omega arith in
      let next : i * n + n ≡ (i + 1) * n = omega arith in
      let room = row_end i m n (length xs) h size in
      ap (λ k. take (i * v) out ++ (written ++ drop k (drop (i * v) out))) many
      ∙ ap (λ k. take (i * k) out ++ (written ++ drop k (drop (i * k) out))) same
      ∙ ap (λ vs. take (i * n) out ++ (vs ++ drop n (drop (i * n) out))) at
      ∙ ap (λ vs. take (i * n) out ++ (map f (take n (drop (i * n) xs)) ++ vs)) (drop-drop n (i * n) out)
      ∙ ap (λ vs. take (i * n) vs ++ (map f (take n (drop (i * n) xs)) ++ drop (i * n + n) vs)) is
      ∙ map_block xs old (i * n) n room e
      ∙ ap (λ k. map f (take k xs) ++ drop k old) next
