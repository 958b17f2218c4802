-- The parts of a step to the next row, from the last coordinate on.
use Rattle.std.proofs.Common.{◌≡◌, ℕ, ◌+◌, ◌-◌, ◌^◌, ◌<◌, ◌≤◌, List, [], ◌∷◌, length, get_or, drop, sym, ap, ◌∙◌, arith}
use Rattle.std.proofs.lemmas.Nat.{pow_pos}
use Rattle.mlu_ring.specs.Ring.{Ring, RingLaws}
use Rattle.mlu_ring.specs.Tables.{weight, weights, value}
use Rattle.mlu_ring.proofs.SumsBelow.{sum_below-zero, product_below-zero, product_below-suc}
use Rattle.mlu_ring.proofs.Successor.{done-first, last-first, last-last, value-pushed}
use Rattle.mlu_ring.proofs.Joined.{length-weights}
use Rattle.mlu_point.specs.declared.point.rule.Successor.{Successor}
use Rattle.mlu_point.specs.declared.point.rule.Successor.TheVariants.{RepeatLast, Wrap}
use Rattle.mlu_point.specs.Rules.{successor_by, next_by, after_last}
use Rattle.mlu_point.specs.Steps.{carry_of, done_of, last_of}
use Rattle.mlu_point.proofs.Complements.{leaves-product, settles-product, agrees-products}
use Rattle.mlu_point.proofs.Rules.{rule-step}
use Rattle.mlu_point.proofs.Suffixes.{suffix-none, suffix-more, suffix-whole, length-suffix}

-- the last k entries
abbrev pub tail : {X : Type 0} → List X → ℕ → List X
tail xs k = drop (length xs - k) xs

module _ {R : Type 0} (ring : Ring R) (laws : RingLaws ring) where
  infixl 50 ◌⊕◌
  infixl 50 ◌⊖◌
  infixl 60 ◌⊗◌
  open ring use {sum as ◌⊕◌, product as ◌⊗◌, minus as ◌⊖◌, negation as neg, zero as 𝟘, one as 𝟙}

  carry_of-first : (c d : R) (p r : List R) → carry_of ring (c ∷ p) (d ∷ r) ≡ (c ⊗ (𝟙 ⊖ d)) ⊗ carry_of ring p r
  carry_of-first c d p r = product_below-suc ring (length p) (λ i. get_or (c ∷ p) i 𝟘 ⊗ (𝟙 ⊖ get_or (d ∷ r) i 𝟘))

  last_of-first : (c d : R) (p r : List R) → last_of ring (c ∷ p) (d ∷ r) ≡ (c ⊗ d) ⊗ last_of ring p r
  last_of-first c d p r = product_below-suc ring (length p) (λ i. get_or (c ∷ p) i 𝟘 ⊗ get_or (d ∷ r) i 𝟘)

  gathered : (a b s m t : R) → ((a ⊗ s) ⊕ (b ⊗ t)) ⊕ (m ⊗ s) ≡ (s ⊗ (a ⊕ m)) ⊕ (t ⊗ b)
  gathered a b s m t = simp (laws.product_sum, laws.product_comm, laws.sum_assoc, laws.sum_comm)

  done_of-first : (c d : R) (p r : List R) → length p ≡ length r → done_of ring (c ∷ p) (d ∷ r) ≡ (done_of ring p r ⊗ (((𝟙 ⊖ c) ⊗ (𝟙 ⊖ d)) ⊕ (c ⊗ d))) ⊕ (carry_of ring p r ⊗ ((𝟙 ⊖ c) ⊗ d))
  done_of-first c d p r h =
      done-first ring laws c d p r h
      ∙ ap (λ t. (((𝟙 ⊖ c) ⊗ (𝟙 ⊖ d)) ⊗ done_of ring p r ⊕ ((𝟙 ⊖ c) ⊗ d) ⊗ t) ⊕ (c ⊗ d) ⊗ done_of ring p r) (last-first ring laws p r h)
      ∙ gathered ((𝟙 ⊖ c) ⊗ (𝟙 ⊖ d)) ((𝟙 ⊖ c) ⊗ d) (done_of ring p r) (c ⊗ d) (carry_of ring p r)

  pub carry_of-none : (p r : List R) (carry : R) → carry ≡ 𝟙 → carry ≡ carry_of ring (tail p 0) (tail r 0)
  carry_of-none p r carry is = is ∙ sym (ap (λ l. carry_of ring l (tail r 0)) (suffix-none p) ∙ product_below-zero ring (λ i. get_or [] i 𝟘 ⊗ (𝟙 ⊖ get_or (tail r 0) i 𝟘)))

  pub last_of-none : (p r : List R) (stay : R) → stay ≡ 𝟙 → stay ≡ last_of ring (tail p 0) (tail r 0)
  last_of-none p r stay is = is ∙ sym (ap (λ l. last_of ring l (tail r 0)) (suffix-none p) ∙ product_below-zero ring (λ i. get_or [] i 𝟘 ⊗ get_or (tail r 0) i 𝟘))

  pub done_of-none : (p r : List R) (done : R) → done ≡ 𝟘 → done ≡ done_of ring (tail p 0) (tail r 0)
  done_of-none p r done is = is ∙ sym (ap (λ l. done_of ring l (tail r 0)) (suffix-none p) ∙ sum_below-zero ring (λ x. weight ring [] x ⊗ weight ring (tail r 0) (x + 1)))

  tails-same : (p r : List R) (k : ℕ) → k < length p → length p ≡ length r → length (tail p k) ≡ length (tail r k)
  tails-same p r k h same = length-suffix p k (omega arith) ∙ sym (length-suffix r k (omega (arith, h, same)))

  -- one coordinate more of both, with the products of the two and of each with the other's complement
  module _ (p r : List R) (k : ℕ) (c d both leaves settles : R) (h : k < length p) (same : length p ≡ length r) (at_p : c ≡ get_or p (length p - 1 - k) c) (at_r : d ≡ get_or r (length p - 1 - k) d)
      (product : both ≡ c ⊗ d) (less : leaves ≡ c ⊖ both) (rest : settles ≡ d ⊖ both) where
    tails : {X : Type 0} (f : List R → List R → X) → f (tail p (k + 1)) (tail r (k + 1)) ≡ f (c ∷ tail p k) (d ∷ tail r k)
    tails f =
        let within : k < length r = omega (arith, h, same) in
        let at : d ≡ get_or r (length r - 1 - k) d = at_r ∙ ap (λ n. get_or r (n - 1 - k) d) same in
        ap (λ l. f l (tail r (k + 1))) (suffix-more p k c h at_p) ∙ ap (λ l. f (c ∷ tail p k) l) (suffix-more r k d within at)

    pub carry_of-more : (carry next : R) → carry ≡ carry_of ring (tail p k) (tail r k) → next ≡ carry ⊗ leaves → next ≡ carry_of ring (tail p (k + 1)) (tail r (k + 1))
    carry_of-more carry next before made =
        let left : leaves ≡ c ⊗ (𝟙 ⊖ d) = less ∙ ap (λ t. c ⊖ t) product ∙ leaves-product ring laws c d in
        made ∙ laws.product_comm carry leaves ∙ ap (λ t. t ⊗ carry) left ∙ ap (λ t. (c ⊗ (𝟙 ⊖ d)) ⊗ t) before ∙ sym (tails (carry_of ring) ∙ carry_of-first c d (tail p k) (tail r k))

    pub last_of-more : (last next : R) → last ≡ last_of ring (tail p k) (tail r k) → next ≡ last ⊗ both → next ≡ last_of ring (tail p (k + 1)) (tail r (k + 1))
    last_of-more last next before made =
        made ∙ laws.product_comm last both ∙ ap (λ t. t ⊗ last) product ∙ ap (λ t. (c ⊗ d) ⊗ t) before ∙ sym (tails (last_of ring) ∙ last_of-first c d (tail p k) (tail r k))

    pub done_of-more : (carry done next : R) → carry ≡ carry_of ring (tail p k) (tail r k) → done ≡ done_of ring (tail p k) (tail r k)
        → next ≡ (done ⊗ ((𝟙 ⊖ leaves) ⊖ settles)) ⊕ (carry ⊗ settles) → next ≡ done_of ring (tail p (k + 1)) (tail r (k + 1))
    done_of-more carry done next at_carry at_done made =
        let left : leaves ≡ c ⊖ (c ⊗ d) = less ∙ ap (λ t. c ⊖ t) product in
        let settled : settles ≡ d ⊖ (c ⊗ d) = rest ∙ ap (λ t. d ⊖ t) product in
        let agrees : (𝟙 ⊖ leaves) ⊖ settles ≡ ((𝟙 ⊖ c) ⊗ (𝟙 ⊖ d)) ⊕ (c ⊗ d) = ap (λ t. (𝟙 ⊖ t) ⊖ settles) left ∙ ap (λ t. (𝟙 ⊖ (c ⊖ (c ⊗ d))) ⊖ t) settled ∙ agrees-products ring laws c d in
        let moves : settles ≡ (𝟙 ⊖ c) ⊗ d = settled ∙ settles-product ring laws c d in
        made
        ∙ ap (λ t. (done ⊗ t) ⊕ (carry ⊗ settles)) agrees
        ∙ ap (λ t. (done ⊗ (((𝟙 ⊖ c) ⊗ (𝟙 ⊖ d)) ⊕ (c ⊗ d))) ⊕ (carry ⊗ t)) moves
        ∙ ap (λ t. (t ⊗ (((𝟙 ⊖ c) ⊗ (𝟙 ⊖ d)) ⊕ (c ⊗ d))) ⊕ (carry ⊗ ((𝟙 ⊖ c) ⊗ d))) at_done
        ∙ ap (λ t. (done_of ring (tail p k) (tail r k) ⊗ (((𝟙 ⊖ c) ⊗ (𝟙 ⊖ d)) ⊕ (c ⊗ d))) ⊕ (t ⊗ ((𝟙 ⊖ c) ⊗ d))) at_carry
        ∙ sym (tails (done_of ring) ∙ done_of-first c d (tail p k) (tail r k) (tails-same p r k h same))

  -- the last k coordinates are all
  pub tails-all : {X : Type 0} (f : List R → List R → X) (p r : List R) (k : ℕ) → length p ≤ k → length p ≡ length r → f (tail p k) (tail r k) ≡ f p r
  tails-all f p r k h same =
      let within : length r ≤ k = omega (arith, h, same) in
      ap (λ l. f l (tail r k)) (suffix-whole p k h) ∙ ap (λ l. f p l) (suffix-whole r k within)

  -- what the last row gives: it stays, or every bit of it goes to 0
  abbrev pub end_of : Successor → List R → List R → R
  end_of RepeatLast p r = last_of ring p r
  end_of Wrap p r = carry_of ring p r

  last-row : (rule : Successor) (p r : List R) → length p ≡ length r → weight ring p (2 ^ length p - 1) ⊗ weight ring r (after_last rule (length (weights ring p))) ≡ end_of rule p r
  last-row RepeatLast p r same = ap (λ n. weight ring p (2 ^ length p - 1) ⊗ weight ring r (n - 1)) (length-weights ring p ∙ ap (λ n. 2 ^ n) same) ∙ last-last ring laws p r same
  last-row Wrap p r same = last-first ring laws p r same

  -- the steps that end below the top, with that of the last row
  pub steps-value : (rule : Successor) (p r : List R) (done end : R) → length p ≡ length r → done ≡ done_of ring p r → end ≡ end_of rule p r → done ⊕ end ≡ value ring (next_by rule ring (weights ring p)) r
  steps-value rule p r done end same at_done at_end =
      let n = length (weights ring p) in
      let some : 0 < length (weights ring p) = omega (arith, length-weights ring p, pow_pos (length p)) in
      ap (λ t. t ⊕ end) at_done
      ∙ ap (λ t. done_of ring p r ⊕ t) (at_end ∙ sym (last-row rule p r same))
      ∙ sym (value-pushed ring laws (successor_by rule n) p r (after_last rule n) same (rule-step rule n some))
