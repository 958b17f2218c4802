-- Points that are written by index: the powers of an element, and the bits of a number.
use Rattle.std.proofs.Common.{◌≡◌, ℕ, ◌+◌, ◌-◌, ◌*◌, ◌/◌, ◌%◌, ◌^◌, ◌<◌, ◌≤◌, List, length, get_or, set, map, sym, ap, ◌∙◌, arith, inl, inr, refl, subst, ◌++◌, ◌∷◌, []}
use Rattle.std.proofs.lemmas.Bool.{cases_eq}
use Rattle.std.proofs.lemmas.List.{get_or-set_same, get_or-set_other, length-set}
use Rattle.std.proofs.lemmas.List.FromFn.{fill_by_all, map-range_with_len_more}
use Rattle.std.proofs.Math.Nat.{div-eq_of_lt, lt-div-mul-add}
use Rattle.std.proofs.lemmas.Nat.{pow_pos}
use Rattle.std.proofs.Math.Pow.{pow_mono}
use Rattle.std.specs.List.{range_with_len}
use Rattle.mlu_ring.specs.Ring.{Ring}
use Rattle.mlu_ring.specs.Tables.{power, powers}

-- a word has no bit from place 64 on
pub bit-none : (x place : ℕ) → x < 2 ^ 64 → 64 ≤ place → x / 2 ^ place % 2 ≡ 0
bit-none x place fits high =
    let below : x < 2 ^ place = omega (arith, fits, pow_mono {i = 64} {j = place} high) in
    let none : x / 2 ^ place ≡ 0 = div-eq_of_lt below in
    rw none (omega arith)

-- an index whose bits above place n are 0 is below 2 ^ n
pub below-power : (x n : ℕ) → x / 2 ^ n ≡ 0 → x < 2 ^ n
below-power x n none =
    let bound : x < x / 2 ^ n * 2 ^ n + 2 ^ n = lt-div-mul-add (pow_pos n) in
    let none_of : 0 * 2 ^ n ≡ 0 = omega arith in
    let first : x / 2 ^ n * 2 ^ n ≡ 0 = ap (λ q. q * 2 ^ n) none ∙ none_of in
    omega (arith, bound, first)

-- one more element made from its index
pub made-more : {X : Type 0} (f : ℕ → X) (items after : List X) (i : ℕ) (x : X) → items ≡ map f (range_with_len 0 i) → x ≡ f i → after ≡ items ++ x ∷ [] → after ≡ map f (range_with_len 0 (i + 1))
made-more f items after i x before is made =
    made ∙ ap (λ l. l ++ x ∷ []) before ∙ ap (λ y. map f (range_with_len 0 i) ++ y ∷ []) is ∙ sym (map-range_with_len_more f 0 i i (omega arith))

module _ {R : Type 0} (ring : Ring R) where
  -- the last k places hold the powers
  abbrev pub Holds : List R → R → ℕ → ℕ → Type 0
  Holds xs y n k = (j : ℕ) → n - k ≤ j → j < n → get_or xs j ring.zero ≡ power ring y (2 ^ (n - 1 - j))

  pub holds-none : (xs : List R) (y : R) (n : ℕ) → Holds xs y n 0
  holds-none xs y n j h below = absurd (omega arith)

  pub holds-more : (xs : List R) (y p : R) (n k : ℕ) → length xs ≡ n → k < n → p ≡ power ring y (2 ^ k) → Holds xs y n k → Holds (set xs (n - 1 - k) p) y n (k + 1)
  holds-more xs y p n k long h is before j from below =
      elim (cases_eq j (n - 1 - k)) as (λ _. get_or (set xs (n - 1 - k) p) j ring.zero ≡ power ring y (2 ^ (n - 1 - j))) [
        | inl here ↦
            let within : n - 1 - k < length xs = omega (arith, long) in
            let place : k ≡ n - 1 - j = omega (arith, here) in
            ap (λ i. get_or (set xs (n - 1 - k) p) i ring.zero) here ∙ get_or-set_same xs (n - 1 - k) p ring.zero within ∙ is ∙ ap (λ i. power ring y (2 ^ i)) place
        | inr other ↦
            let later : n - k ≤ j = omega (arith, other) in
            get_or-set_other xs (n - 1 - k) j p ring.zero other ∙ before j later below
      ]

  -- one more place written
  pub holds-write : (xs : List R) (y p : R) (k : ℕ) → k < length xs → p ≡ power ring y (2 ^ k) → Holds xs y (length xs) k
      → Holds (set xs (length xs - 1 - k) p) y (length (set xs (length xs - 1 - k) p)) (k + 1)
  holds-write xs y p k h is before =
      subst (λ n. Holds (set xs (length xs - 1 - k) p) y n (k + 1)) (sym (length-set xs (length xs - 1 - k) p)) (holds-more xs y p (length xs) k refl h is before)

  pub holds-all : (xs : List R) (y : R) (n k : ℕ) → length xs ≡ n → n ≤ k → Holds xs y n k → xs ≡ powers ring y n
  unfolding powers
  holds-all xs y n k long h held = fill_by_all (λ i. power ring y (2 ^ (n - 1 - i))) xs n ring.zero long (λ j below. held j (omega arith) below)
