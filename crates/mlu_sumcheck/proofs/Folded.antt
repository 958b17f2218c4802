-- Tables folded at some of the challenges.
use Rattle.std.proofs.Common.{◌≡◌, ℕ, suc, ◌+◌, ◌-◌, ◌/◌, ◌^◌, ◌<◌, ◌≤◌, List, [], ◌∷◌, ◌++◌, length, take, get_or, refl, sym, ap, ◌∙◌, arith}
use Rattle.std.proofs.lemmas.List.{take_more, length-take-le}
use Rattle.mlu_ring.specs.Ring.{Ring, RingLaws}
use Rattle.mlu_ring.specs.Tables.{pair, front, line, weights, value}
use Rattle.mlu_ring.proofs.Rings.{product_one}
use Rattle.mlu_ring.proofs.Values.{value-none}
use Rattle.mlu_ring.proofs.Doubling.{weights-none, weights-first}
use Rattle.mlu_ring.proofs.Joined.{value-joined_prefix}
use Rattle.mlu_ring.proofs.Totals.{pair-nil, pair-cons}
use Rattle.mlu_ring.proofs.Univariate.{length-front}
use Rattle.mlu_ring.proofs.Rings.{sum_zero}
use Rattle.mlu_sumcheck.specs.Rounds.{folded, product_of_values}

pub doubled : (n k : ℕ) → n ≡ 2 ^ suc k → n ≡ 2 ^ k + 2 ^ k
doubled n k e = omega (arith, e)

pub power_halved : (n k : ℕ) → n ≡ 2 ^ suc k → n / 2 ≡ 2 ^ k
power_halved n k e = omega (arith, e)

module _ {R : Type 0} (ring : Ring R) where
  pub length-folded : (rs e : List R) (m : ℕ) → length e ≡ 2 ^ (length rs + m) → length (folded ring rs e) ≡ 2 ^ m
  length-folded [] e m size = size ∙ ap (λ k. 2 ^ k) (omega arith)
  length-folded (r ∷ rs) e m size =
      let more : length e ≡ 2 ^ suc (length rs + m) = size ∙ ap (λ k. 2 ^ k) (omega arith) in
      length-folded rs (front ring (line ring r) e) m (length-front ring (line ring r) e (2 ^ (length rs + m)) (power_halved (length e) (length rs + m) more))

  folded-append : (rs ss e : List R) → folded ring (rs ++ ss) e ≡ folded ring ss (folded ring rs e)
  folded-append [] ss e = refl
  folded-append (r ∷ rs) ss e = folded-append rs ss (front ring (line ring r) e)

  -- one more challenge
  pub folded-take_more : (challenges e : List R) (i : ℕ) (r : R) → i < length challenges → r ≡ get_or challenges i r → folded ring (take (suc i) challenges) e ≡ front ring (line ring r) (folded ring (take i challenges) e)
  folded-take_more challenges e i r below at =
      let next : suc i ≡ i + 1 = omega arith in
      ap (λ k. folded ring (take k challenges) e) next
      ∙ ap (λ rs. folded ring rs e) (take_more challenges i r below)
      ∙ folded-append (take i challenges) (get_or challenges i r ∷ []) e
      ∙ ap (λ t. front ring (line ring t) (folded ring (take i challenges) e)) (sym at)

  -- the table after i of the challenges
  pub length-folded_at : (challenges e : List R) (i : ℕ) → length e ≡ 2 ^ length challenges → i ≤ length challenges → length (folded ring (take i challenges) e) ≡ 2 ^ (length challenges - i)
  length-folded_at challenges e i size le =
      let first = length-take-le i challenges le in
      let whole : length challenges ≡ length (take i challenges) + (length challenges - i) = omega (arith, first, le) in
      length-folded (take i challenges) e (length challenges - i) (size ∙ ap (λ k. 2 ^ k) whole)

  -- and its halves, where a challenge is left
  pub halves-folded_at : (challenges e : List R) (i : ℕ) → length e ≡ 2 ^ length challenges → i < length challenges → length (folded ring (take i challenges) e) ≡ 2 ^ (length challenges - suc i) + 2 ^ (length challenges - suc i)
  halves-folded_at challenges e i size below =
      let left : length challenges - i ≡ suc (length challenges - suc i) = omega (arith, below) in
      doubled (length (folded ring (take i challenges) e)) (length challenges - suc i) (length-folded_at challenges e i size (omega (arith, below)) ∙ ap (λ k. 2 ^ k) left)

module _ {R : Type 0} (ring : Ring R) (laws : RingLaws ring) where
  infixl 50 ◌⊖◌
  infixl 60 ◌⊗◌
  open ring use {product as ◌⊗◌, zero as 𝟘, one as 𝟙, minus as ◌⊖◌}

  weights-one : (r : R) → weights ring (r ∷ []) ≡ line ring r
  weights-one r =
      let first = product_one ring laws (𝟙 ⊖ r) in
      let second = product_one ring laws r in
      weights-first ring laws r [] ∙ rw (weights-none ring laws) (ap (λ t. t ∷ (r ⊗ 𝟙) ∷ []) first ∙ ap (λ t. (𝟙 ⊖ r) ∷ t ∷ []) second)

  pub value-front : (e rs : List R) (r : R) → length e ≡ 2 ^ suc (length rs) → value ring (front ring (line ring r) e) rs ≡ value ring e (r ∷ rs)
  value-front e rs r size =
      ap (λ w. value ring (front ring w e) rs) (sym (weights-one r))
      ∙ value-joined_prefix ring laws e (r ∷ []) rs (size ∙ ap (λ k. 2 ^ k) (omega arith))

  -- folded at all coordinates of a point, a table is its value there
  pub folded-value : (rs e : List R) → length e ≡ 2 ^ length rs → get_or (folded ring rs e) 0 𝟘 ≡ value ring e rs
  folded-value [] e size = sym (value-none ring laws e)
  folded-value (r ∷ rs) e size =
      folded-value rs (front ring (line ring r) e) (length-front ring (line ring r) e (2 ^ length rs) (power_halved (length e) (length rs) size))
      ∙ value-front e rs r size

  pair-one : (w e : List R) → length w ≡ 1 → length e ≡ 1 → pair ring w e ≡ get_or w 0 𝟘 ⊗ get_or e 0 𝟘
  pair-one (x ∷ []) (y ∷ []) p q = pair-cons ring laws x y [] [] ∙ ap (λ t. ring.sum (x ⊗ y) t) (pair-nil ring laws []) ∙ sum_zero ring laws (x ⊗ y)
  pair-one [] e p q = absurd (omega arith)
  pair-one (x ∷ y ∷ more) e p q = absurd (omega arith)
  pair-one (x ∷ []) [] p q = absurd (omega arith)
  pair-one (x ∷ []) (y ∷ z ∷ more) p q = absurd (omega arith)

  -- so the pair of two tables is the product of their values
  pub pair-folded : (rs w e : List R) → length w ≡ 2 ^ length rs → length e ≡ 2 ^ length rs → pair ring (folded ring rs w) (folded ring rs e) ≡ product_of_values ring w e rs
  pair-folded rs w e size_w size_e =
      let none : length rs ≡ length rs + 0 = omega arith in
      pair-one (folded ring rs w) (folded ring rs e) (length-folded ring rs w 0 (size_w ∙ ap (λ k. 2 ^ k) none)) (length-folded ring rs e 0 (size_e ∙ ap (λ k. 2 ^ k) none))
      ∙ ap (λ t. t ⊗ get_or (folded ring rs e) 0 𝟘) (folded-value rs w size_w)
      ∙ ap (λ t. value ring w rs ⊗ t) (folded-value rs e size_e)
