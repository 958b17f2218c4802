-- How many entries are left by folds, compressions and rounds.
use Rattle.std.proofs.Common.{◌≡◌, ℕ, zero, suc, ◌+◌, ◌*◌, ◌/◌, ◌^◌, ◌<◌, ◌≤◌, List, map, length, refl, sym, ap, ◌∙◌, subst, arith, length-append}
use Rattle.std.specs.Prelude.{flat_map}
use Rattle.std.specs.Int.{IsPowerOfTwo}
use Rattle.std.specs.List.{range_with_len}
use Rattle.std.proofs.lemmas.List.{length-map}
use Rattle.std.proofs.lemmas.Nat.{pow_pos}
use Rattle.std.proofs.Math.Nat.{mul-div_cancel_left, mul-le-mul_right, mul_comm}
use Rattle.mlu_ring.specs.Ring.{Ring}
use Rattle.mlu_ring.specs.Tables.{front, back, line, weights}
use Rattle.mlu_ring.proofs.PowersOfTwo.{half_power}
use Rattle.mlu_ring.proofs.Univariate.{length-front}
use Rattle.mlu_ring.proofs.Folds.{length-back}
use Rattle.mlu_ring.proofs.Joined.{length-weights}
use Rattle.multilinear_util.specs.Compressions.{prefix_compressed, suffix_compressed}
use Rattle.mlu_words.specs.Calls.{embedded_compressed, folded}
use Rattle.mlu_words.specs.declared.operands.Variables.{Variables}
use Rattle.mlu_words.specs.declared.operands.Variables.TheVariants.{First, Last}

-- rows of some entries are no more than these
pub rows-within : (e p o : ℕ) → e ≡ 2 ^ p * o → IsPowerOfTwo o → 2 ^ p ≤ e
rows-within e p o h power =
    let some : 1 ≤ o = subst (λ n. 1 ≤ n) (sym power.1) (pow_pos power.0) in
    omega (arith, h, mul_comm (2 ^ p) o, mul-le-mul_right (2 ^ p) some)

twice : (a w : ℕ) → (a + a) * w ≡ a * w + a * w
twice a w = grind arith

-- half of the words of a table with a variable
pub half-words : (n c w : ℕ) → n ≡ c * w → IsPowerOfTwo c → 1 < c → n / 2 ≡ c / 2 * w
half-words n c w whole power more =
    let half = half_power c power.0 power.1 more in
    let both : n ≡ c / 2 * w + c / 2 * w = whole ∙ ap (λ m. m * w) half.2 ∙ twice (c / 2) w in
    omega (arith, both)

module _ {R : Type 0} (ring : Ring R) where
  pub length-folded : (variable : Variables) (r : R) (e : List R) → length (folded variable ring r e) ≡ length e / 2
  length-folded First r e = length-front ring (line ring r) e (length e / 2) refl
  length-folded Last r e = length-back ring (line ring r) e

  rows-left : (p e : List R) (o : ℕ) → length e ≡ 2 ^ length p * o → length e / length (weights ring p) ≡ o
  rows-left p e o h =
      ap (λ n. n / length (weights ring p)) h ∙ ap (λ n. 2 ^ length p * o / n) (length-weights ring p) ∙ mul-div_cancel_left o (pow_pos (length p))

  pub length-compressed : {A : Type 0} (embed : A → R) (variables : Variables) (e : List A) (p : List R) (s : R) (o : ℕ) → length e ≡ 2 ^ length p * o → length (embedded_compressed variables ring embed e p s) ≡ o
  length-compressed embed First e p s o h =
      length-map (front ring (weights ring p) (map embed e)) (ring.product s)
      ∙ length-front ring (weights ring p) (map embed e) o (rows-left p (map embed e) o (length-map e embed ∙ h))
  length-compressed embed Last e p s o h =
      length-map (back ring (weights ring p) (map embed e)) (ring.product s)
      ∙ length-back ring (weights ring p) (map embed e)
      ∙ rows-left p (map embed e) o (length-map e embed ∙ h)

-- the elements of so many rounds of three
pub length-joined : {X : Type 0} (f : ℕ → List X) → ((i : ℕ) → length (f i) ≡ 3) → (a n : ℕ) → length (flat_map (λ round. round) (map f (range_with_len a n))) ≡ n * 3
length-joined f three a zero = refl
length-joined f three a (suc n) =
    let rest = length-joined f three (a + 1) n in
    length-append (f a) (flat_map (λ round. round) (map f (range_with_len (a + 1) n))) ∙ omega (arith, three a, rest)
