-- Chunks of a batch.
use Rattle.std.proofs.Common.{◌≡◌, ℕ, ◌*◌, ◌/◌, ◌<◌, ◌≤◌, ap, ◌∙◌, subst, sym}
use Rattle.std.proofs.Math.Nat.{mul-div_cancel}

-- as many chunks as 2^chunks cut a table of n variables, whose points stand in v values
pub chunks_fit : (v n points chunks : ℕ) → v ≡ n * points → chunks ≤ n → 0 < points → chunks ≤ v / points
chunks_fit v n points chunks count few some = subst (λ k. chunks ≤ k) (sym (ap (λ k. k / points) count ∙ mul-div_cancel n some)) few
