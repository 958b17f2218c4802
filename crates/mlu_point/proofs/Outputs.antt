-- What a table leaves in an output.
use Rattle.std.proofs.Common.{not, nat_eq, ◌≡◌, ℕ, zero, suc, ◌≤◌, Bool, true, false, List, [], ◌∷◌, ◌++◌, length, get_or, take, drop, set, refl, sym, ap, ◌∙◌, arith}
use Rattle.std.specs.Prelude.{if◌then◌else◌}
use Rattle.std.proofs.Math.Seq.{take-append_seam}
use Rattle.std.specs.Simd.Lanes.{zip2}
use Rattle.std.proofs.lemmas.Bool.{ne_eqb}
use Rattle.std.proofs.lemmas.List.{length-take, take-append-drop}
use Rattle.mlu_ring.specs.Ring.{Ring}
use Rattle.mlu_ring.specs.Matrices.{left_by}
use Rattle.mlu_ring.proofs.Zips.{zip2-append}

-- what is written in two halves
pub zip-append : {A B : Type 0} (f : A → B → A) (m : ℕ) (old : List A) (a b : List B) → length a ≡ m → m ≤ length old → zip2 f (take m old) a ++ zip2 f (drop m old) b ≡ zip2 f old (a ++ b)
zip-append f m old a b h k =
    let same : length (take m old) ≡ length a = simp length-take (omega (arith, h)) in
    sym (zip2-append f (take m old) (drop m old) a b same) ∙ ap (λ l. zip2 f l (a ++ b)) (take-append-drop m old)

module _ {R : Type 0} (ring : Ring R) where
  pub left-append : (adds : Bool) (m : ℕ) (old a b : List R) → length a ≡ m → m ≤ length old → left_by ring adds (take m old) a ++ left_by ring adds (drop m old) b ≡ left_by ring adds old (a ++ b)
  left-append true m old a b h k = zip-append ring.sum m old a b h k
  left-append false m old a b h k = refl

  -- one entry written
  pub left-one : (adds : Bool) (out : List R) (o t r : R) → length out ≡ 1 → o ≡ get_or out 0 o → r ≡ (if adds then ring.sum o t else t) → set out 0 r ≡ left_by ring adds out (t ∷ [])
  left-one adds [] o t r h at is = absurd (omega arith)
  left-one true (x ∷ []) o t r h at is = ap (λ y. y ∷ []) (is ∙ ap (λ z. ring.sum z t) at)
  left-one false (x ∷ []) o t r h at is = ap (λ y. y ∷ []) is
  left-one adds (x ∷ y ∷ more) o t r h at is = absurd (omega arith)

  -- the flag is a number, and 0 for false
  pub left-added : (flag : ℕ) (out after t : List R) → (flag ≡ 0 → ⊥) → after ≡ zip2 ring.sum out t → after ≡ left_by ring (not (nat_eq flag 0)) out t
  left-added flag out after t is made =
      let set_flag : not (nat_eq flag 0) ≡ true = ap not (ne_eqb flag 0 is) in
      rw set_flag made

  pub left-written : (flag : ℕ) (out after t : List R) → flag ≡ 0 → after ≡ t → after ≡ left_by ring (not (nat_eq flag 0)) out t
  left-written zero out after t is made = made
  left-written (suc flag) out after t is made = absurd (omega arith)

-- what a vector holds once a slice of all its places was written
pub written-back : {A : Type 0} (out items : List A) (n : ℕ) → n ≡ length out → take n (out ++ drop (length out) items) ≡ out
written-back out items n all = ap (λ k. take k (out ++ drop (length out) items)) all ∙ take-append_seam out (drop (length out) items)
