-- Weights split by a coordinate, one after the other.
use Rattle.std.proofs.Common.{◌≡◌, ℕ, zero, suc, ◌+◌, ◌<◌, ◌≤◌, List, [], ◌∷◌, ◌++◌, map, length, take, drop, get_or, set, ap, refl, sym, ◌∙◌, arith, append_assoc, append-nil}
use Rattle.std.proofs.lemmas.List.{map_more, set-append_left, get_or_append_left, take_all, drop_all}
use Rattle.mlu_ring.specs.Ring.{Ring, RingLaws}
use Rattle.mlu_ring.specs.Tables.{weights}
use Rattle.mlu_ring.proofs.Rings.{product_one}
use Rattle.mlu_ring.proofs.Doubling.{weights-none}

module _ {R : Type 0} (rest share : R → R) where
  -- the first i weights are split
  abbrev pub split_first : ℕ → List R → List R
  split_first i w = (map rest (take i w) ++ drop i w) ++ map share (take i w)

  one_more : (w : List R) (i : ℕ) (x : R) → i < length w → x ≡ get_or w i x → set (map rest (take i w) ++ drop i w) i (rest x) ≡ map rest (take (i + 1) w) ++ drop (i + 1) w
  one_more [] i x h at = absurd (omega arith)
  one_more (y ∷ w) zero x h at =
      let first : suc zero ≡ zero + 1 = omega arith in
      ap (λ t. rest t ∷ w) at ∙ ap (λ k. map rest (take k (y ∷ w)) ++ drop k (y ∷ w)) first
  one_more (y ∷ w) (suc i) x h at =
      let next : suc (i + 1) ≡ suc i + 1 = omega arith in
      ap (λ t. rest y ∷ t) (one_more w i x (omega arith) at) ∙ ap (λ k. map rest (take k (y ∷ w)) ++ drop k (y ∷ w)) next

  within : (w : List R) (i : ℕ) → i < length w → i < length (map rest (take i w) ++ drop i w)
  within [] i h = absurd (omega arith)
  within (y ∷ w) zero h = omega arith
  within (y ∷ w) (suc i) h = let more = within w i (omega arith) in omega (arith, more)

  pub split_one : (w : List R) (i : ℕ) (x : R) → i < length w → x ≡ get_or w i x → set (split_first i w) i (rest x) ++ share x ∷ [] ≡ split_first (i + 1) w
  split_one w i x h at =
      let low = map rest (take i w) ++ drop i w in
      ap (λ l. l ++ share x ∷ []) (set-append_left low (map share (take i w)) i (rest x) (within w i h) ∙ ap (λ l. l ++ map share (take i w)) (one_more w i x h at))
      ∙ append_assoc (map rest (take (i + 1) w) ++ drop (i + 1) w) (map share (take i w)) (share x ∷ [])
      ∙ ap (λ t. (map rest (take (i + 1) w) ++ drop (i + 1) w) ++ (map share (take i w) ++ share t ∷ [])) at
      ∙ ap (λ l. (map rest (take (i + 1) w) ++ drop (i + 1) w) ++ l) (sym (map_more share w i x h))

  low_long : (w : List R) (i : ℕ) → length (map rest (take i w) ++ drop i w) ≡ length w
  low_long [] zero = omega arith
  low_long [] (suc i) = omega arith
  low_long (y ∷ w) zero = omega arith
  low_long (y ∷ w) (suc i) = let more = low_long w i in omega (arith, more)

  low_read : (w : List R) (i : ℕ) (d : R) → i < length w → get_or (map rest (take i w) ++ drop i w) i d ≡ get_or w i d
  low_read [] i d h = absurd (omega arith)
  low_read (y ∷ w) zero d h = refl
  low_read (y ∷ w) (suc i) d h = low_read w i d (omega arith)

  -- the next weight is as it was
  pub split_first-read : (w : List R) (i : ℕ) (d : R) → i < length w → get_or (split_first i w) i d ≡ get_or w i d
  split_first-read w i d h = get_or_append_left (map rest (take i w) ++ drop i w) (map share (take i w)) d i (within w i h) ∙ low_read w i d h

  -- in the end all are split
  pub split_first-all : (w : List R) (i : ℕ) → length w ≤ i → split_first i w ≡ map rest w ++ map share w
  split_first-all w i h =
      ap (λ l. (map rest l ++ drop i w) ++ map share l) (take_all i w h)
      ∙ ap (λ l. (map rest w ++ l) ++ map share w) (drop_all i w h)
      ∙ ap (λ l. l ++ map share w) (append-nil (map rest w))

  pub split_first-none : (w : List R) → split_first zero w ≡ w
  split_first-none w = append-nil w

-- without coordinates there is one weight
pub one_weight : {R : Type 0} (ring : Ring R) → RingLaws ring → (s : R) (old p : List R) → length old ≡ 0 → length p ≡ 0 → old ++ s ∷ [] ≡ map (ring.product s) (weights ring p)
one_weight ring laws s [] [] h k =
    ap (λ v. v ∷ []) (sym (product_one ring laws s)) ∙ ap (map (ring.product s)) (sym (weights-none ring laws))
one_weight ring laws s [] (c ∷ p) h k = absurd (omega arith)
one_weight ring laws s (x ∷ old) p h k = absurd (omega arith)
