-- Calls of a function that keeps a state.
use Rattle.std.specs.Prelude.{◌≡◌, ◌<◌, ℕ, suc, zero}

-- n calls lead from state s to state t: call k, for k = 0, 1, .., has the argument k and the answer at k
unfoldable pub CalledInTurn : {S A : Type 0} → (S → ℕ → A → S → Type 0) → ℕ → (ℕ → A) → S → S → Type 0
CalledInTurn step zero at s t = s ≡ t
CalledInTurn {S} step (suc n) at s t = (m : S) × CalledInTurn step n at s m × step m n (at n) t

-- n calls from the state s on have these answers, and lead to some state
abbrev pub AnswersInTurn : {S A : Type 0} → (S → ℕ → A → S → Type 0) → ℕ → (ℕ → A) → S → Type 0
AnswersInTurn {S} step n at s = (t : S) × CalledInTurn step n at s t

-- n calls with the arguments 0, 1, .. are allowed from the state s on: each in every state that those before it may lead to
abbrev pub AreAllowed : {S A : Type 0} → (S → ℕ → Type 0) → (S → ℕ → A → S → Type 0) → ℕ → S → Type 0
AreAllowed {S} {A} allowed step n s = (at : ℕ → A) (k : ℕ) (t : S) → k < n → CalledInTurn step k at s t → allowed t k
