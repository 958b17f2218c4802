-- A column of coefficients, filled four places at a time.
use Rattle.std.proofs.Common.{◌≡◌, ℕ, zero, suc, ◌+◌, ◌<◌, List, length, get_or, slice_index, ap, ◌∙◌, arith}
use Rattle.mlu_ring.proofs.Filled.{IsFilled, filled_by_four, read_image}
use Rattle.mlu_lanes.specs.BabyBear.{reduced, same_canonical}
use Rattle.mlu_ring.specs.Columns.{column_of}
use Rattle.mlu_lanes.specs.Packed.{residue_at}
use Rattle.mlu_lanes.specs.declared.baby_bear.BabyBear.{BabyBear}

module _ {W : ℕ} {E : Type 0} (list : E → List (BabyBear W)) (elements : List E) (c : ℕ) where
  -- coefficient c of the element at k
  pub column_at : (k : ℕ) (e : E) → k < length elements → e ≡ get_or elements k e → get_or (list e) c (reduced 0) ≡ get_or (column_of (reduced 0) list elements c) k (reduced 0)
  column_at k e h at = read_image (λ x. get_or (list x) c (reduced 0)) elements k e (reduced 0) h at

  -- four places more, which hold the words
  pub column_four : (old new : List (BabyBear W)) (words : List ℕ) (n m : ℕ) (e f g h : E) → m ≡ n + 4 → n + 3 < length elements
      → e ≡ get_or elements n e → f ≡ get_or elements (n + 1) f → g ≡ get_or elements (n + 2) g → h ≡ get_or elements (n + 3) h
      → IsFilled (reduced 0) old (column_of (reduced 0) list elements c) n
      → ((i : ℕ) → i < n → get_or new i (reduced 0) ≡ get_or old i (reduced 0))
      → ((j : ℕ) → j < 4 → residue_at new (n + j) ≡ slice_index words j)
      → slice_index words 0 ≡ residue_at (list e) c → slice_index words 1 ≡ residue_at (list f) c → slice_index words 2 ≡ residue_at (list g) c → slice_index words 3 ≡ residue_at (list h) c
      → IsFilled (reduced 0) new (column_of (reduced 0) list elements c) m
  column_four old new words n m e f g h end room at_e at_f at_g at_h done before holds is_e is_f is_g is_h =
      filled_by_four (reduced 0) old new (λ k. get_or (column_of (reduced 0) list elements c) k (reduced 0)) n m end done before each
    where
      first : n ≡ n + 0
      first = omega arith

      each : (j : ℕ) → j < 4 → get_or new (n + j) (reduced 0) ≡ get_or (column_of (reduced 0) list elements c) (n + j) (reduced 0)
      each zero below = same_canonical _ _ (holds 0 below ∙ is_e) ∙ column_at n e (omega arith) at_e ∙ ap (λ k. get_or (column_of (reduced 0) list elements c) k (reduced 0)) first
      each (suc zero) below = same_canonical _ _ (holds 1 below ∙ is_f) ∙ column_at (n + 1) f (omega arith) at_f
      each (suc (suc zero)) below = same_canonical _ _ (holds 2 below ∙ is_g) ∙ column_at (n + 2) g (omega arith) at_g
      each (suc (suc (suc zero))) below = same_canonical _ _ (holds 3 below ∙ is_h) ∙ column_at (n + 3) h (omega arith) at_h
      each (suc (suc (suc (suc j)))) below = absurd (omega arith)
