-- Calls of a function that keeps a state, one after the other.
use Rattle.std.proofs.Common.{◌≡◌, ◌≢◌, ◌<◌, ◌+◌, ◌∙◌, ℕ, suc, zero, List, length, set, get_or, refl, sym, subst, arith, add-one}
use Rattle.std.proofs.lemmas.List.{get_or-set_same, get_or-set_other}
use Rattle.mlu_ring.specs.Calls.{CalledInTurn}

module _ {S A : Type 0} (step : S → ℕ → A → S → Type 0) where
  pub no_calls : (at : ℕ → A) (s : S) → CalledInTurn step 0 at s s
  unfolding CalledInTurn
  no_calls at s = refl

  -- only the answers of the calls that are made matter
  called_alike : (n : ℕ) (at other : ℕ → A) → ((k : ℕ) → k < n → at k ≡ other k) → (s t : S) → CalledInTurn step n at s t → CalledInTurn step n other s t
  unfolding CalledInTurn
  called_alike zero at other same s t calls = calls
  called_alike (suc n) at other same s t (m, before, last) =
      (m, called_alike n at other (λ k h. same k (omega (arith, h))) s m before, subst (λ c. step m n c t) (same n (omega arith)) last)

  pub one_call_more : (n : ℕ) (at other : ℕ → A) → ((k : ℕ) → k < n → at k ≡ other k) → (s m t : S) → CalledInTurn step n at s m → step m n (other n) t → CalledInTurn step (n + 1) other s t
  unfolding CalledInTurn
  one_call_more n at other same s m t before last = subst (λ k. CalledInTurn step k other s t) (sym (add-one n)) (m, called_alike n at other same s m before, last)

  -- one call more, whose answer is written at its place of the list
  pub one_place_more : (n : ℕ) (old new : List A) (answer d : A) → n < length old → new ≡ set old n answer → (s m t : S) → CalledInTurn step n (λ k. get_or old k d) s m → step m n answer t → CalledInTurn step (n + 1) (λ k. get_or new k d) s t
  one_place_more n old new answer d within written s m t before last =
      one_call_more n (λ k. get_or old k d) (λ k. get_or new k d)
      (λ k h. let other : k ≢ n = omega arith in rw (written, get_or-set_other) refl)
      s m t before (rw (written, get_or-set_same) last)

  -- calls that keep the state
  pub same_state : ((s : S) (k : ℕ) (c : A) (t : S) → step s k c t → t ≡ s) → (n : ℕ) (at : ℕ → A) (s t : S) → CalledInTurn step n at s t → t ≡ s
  unfolding CalledInTurn
  same_state keeps zero at s t calls = sym calls
  same_state keeps (suc n) at s t (m, before, last) = keeps m n (at n) t last ∙ same_state keeps n at s m before
