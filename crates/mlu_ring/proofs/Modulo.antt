-- Sums and products modulo m.
use Rattle.std.specs.Prelude.{◌≡◌, ℕ, ◌+◌, ◌-◌, ◌*◌, ◌%◌, ◌<◌}
use Rattle.std.proofs.Common.{ap, ◌∙◌, arith, add_assoc}
use Rattle.std.proofs.Math.Nat.{add-mod, mod_self, add-mod-mod, mod-add-mod, mul_assoc, mul-add}
use Rattle.std.proofs.lemmas.Nat.{mul-mod_first, mul-mod_second}

module _ (m : ℕ) where
  pub mod-sum_assoc : (a b c : ℕ) → ((a + b) % m + c) % m ≡ (a + (b + c) % m) % m
  mod-sum_assoc a b c = simp (mod-add-mod, add-mod-mod, add_assoc)

  pub mod-sum_of_sums : (a b c d : ℕ) → (a + b + (c + d)) % m ≡ ((a % m + b % m) % m + (c % m + d % m) % m) % m
  mod-sum_of_sums a b c d =
      add-mod (a + b) (c + d) m ∙ ap (λ n. (n + (c + d) % m) % m) (add-mod a b m) ∙ ap (λ n. ((a % m + b % m) % m + n) % m) (add-mod c d m)

  pub mod-negation : (a : ℕ) → a < m → ((m - a) % m + a) % m ≡ 0
  mod-negation a h =
      let whole : m - a + a ≡ m = omega arith in
      mod-add-mod (m - a) m a ∙ ap (λ n. n % m) whole ∙ mod_self m

  pub mod-product_assoc : (a b c : ℕ) → ((a * b) % m * c) % m ≡ (a * ((b * c) % m)) % m
  mod-product_assoc a b c = simp (mul-mod_first, mul-mod_second, mul_assoc)

  pub mod-product_sum : (a b c : ℕ) → (a * ((b + c) % m)) % m ≡ ((a * b) % m + (a * c) % m) % m
  mod-product_sum a b c = mul-mod_second a (b + c) m ∙ ap (λ n. n % m) (mul-add a b c) ∙ add-mod (a * b) (a * c) m
