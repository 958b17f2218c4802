-- The first places of an array that begins at zero.
use Rattle.std.proofs.Common.{◌≡◌, ℕ, ◌≤◌, length, take, replicate, ap, sym, subst, ◌∙◌}
use Rattle.std.proofs.lemmas.List.{length-replicate, length-take-le, take-replicate}

module _ {P : Type 0} (most n : ℕ) (z : P) (few : n ≤ most) where
  pub zero_places : (zero : P) → z ≡ zero → take n (replicate most z) ≡ replicate n zero
  zero_places zero is = take-replicate n most z few ∙ ap (replicate n) is

  pub length-places : length (take n (replicate most z)) ≡ n
  length-places = length-take-le n (replicate most z) (subst (λ k. n ≤ k) (sym (length-replicate most z)) few)
