-- The weight of a vertex, from the last coordinate on.
use Rattle.std.proofs.Common.{◌≡◌, ℕ, suc, ◌+◌, ◌-◌, ◌/◌, ◌%◌, ◌^◌, ◌<◌, ◌≤◌, List, [], ◌∷◌, length, get_or, drop, refl, sym, ap, ◌∙◌, arith}
use Rattle.mlu_ring.specs.Ring.{Ring, RingLaws}
use Rattle.mlu_ring.specs.Sums.{product_below}
use Rattle.mlu_ring.specs.Tables.{bit, factor, weight}
use Rattle.mlu_ring.proofs.SumsBelow.{product_below-suc, product_below-same}
use Rattle.mlu_ring.proofs.Bits.{bit-rest_low}
use Rattle.mlu_point.proofs.Suffixes.{suffix-none, suffix-more, suffix-whole, length-suffix}

module _ {R : Type 0} (ring : Ring R) (laws : RingLaws ring) where
  infixl 60 ◌⊗◌
  open ring use {product as ◌⊗◌, zero as 𝟘, one as 𝟙}

  pub weight-none : (x : ℕ) → weight ring [] x ≡ 𝟙
  unfolding weight product_below
  weight-none x = refl

  -- the first coordinate reads the bit above those of the others
  pub weight-first : (c : R) (p : List R) (x : ℕ) → weight ring (c ∷ p) x ≡ factor ring (x / 2 ^ length p % 2) c ⊗ weight ring p x
  unfolding weight bit
  weight-first c p x =
      let n = length p in
      let place : suc n - 1 - 0 ≡ n = omega arith in
      product_below-suc ring n (λ i. factor ring (bit (suc n) i x) (get_or (c ∷ p) i 𝟘))
      ∙ ap (λ k. factor ring (x / 2 ^ k % 2) c ⊗ product_below ring n (λ i. factor ring (bit (suc n) (suc i) x) (get_or p i 𝟘))) place
      ∙ ap (λ t. factor ring (x / 2 ^ n % 2) c ⊗ t) (product_below-same ring n _ _ (λ i q. ap (λ b. factor ring b (get_or p i 𝟘)) (bit-rest_low n i x)))

  -- the loop has multiplied the shares of the last k coordinates
  pub weight-start : (p : List R) (x : ℕ) (r : R) → r ≡ 𝟙 → r ≡ weight ring (drop (length p - 0) p) x
  weight-start p x r is = is ∙ sym (ap (λ l. weight ring l x) (suffix-none p) ∙ weight-none x)

  pub weight-step : (p : List R) (x k : ℕ) (c s r w : R) → k < length p → c ≡ get_or p (length p - 1 - k) c → s ≡ factor ring (x / 2 ^ k % 2) c
      → r ≡ weight ring (drop (length p - k) p) x → w ≡ s ⊗ r → w ≡ weight ring (drop (length p - (k + 1)) p) x
  weight-step p x k c s r w h at is before made =
      let within : k ≤ length p = omega arith in
      let rest = drop (length p - k) p in
      made
      ∙ ap (λ t. t ⊗ r) is
      ∙ ap (λ t. factor ring (x / 2 ^ k % 2) c ⊗ t) before
      ∙ sym (ap (λ l. weight ring l x) (suffix-more p k c h at) ∙ weight-first c rest x ∙ ap (λ n. factor ring (x / 2 ^ n % 2) c ⊗ weight ring rest x) (length-suffix p k within))

  pub weight-end : (p : List R) (x k : ℕ) (r : R) → length p ≤ k → r ≡ weight ring (drop (length p - k) p) x → r ≡ weight ring p x
  weight-end p x k r h is = is ∙ ap (λ l. weight ring l x) (suffix-whole p k h)
