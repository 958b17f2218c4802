-- The weights of a half table, by the form in which they are stored.
use Rattle.std.proofs.Common.{◌≡◌, ℕ, ◌*◌, List, length, sym, ap, ◌∙◌}
use Rattle.mlu_ring.specs.Lanes.{logical}
use Rattle.mlu_ring.proofs.Logical.{length-logical}
use Rattle.mlu_eq.specs.Half.{Half, half_of}
use Rattle.mlu_eq.specs.declared.half.Stored.{Stored}
use Rattle.mlu_eq.specs.declared.half.Stored.TheVariants.{Packed}

module _ {F E Q P O : Type 0} (lanes : P → List E) (half : Half E) (stored : Stored F E Q P O) (is : half_of lanes stored ≡ half) where
  pub packed_weights : (ws slice : List P) → stored ≡ Packed ws → slice ≡ ws → half.weights ≡ logical lanes slice
  packed_weights ws slice form same = sym (ap (λ h. h.weights) is) ∙ ap (λ s. (half_of lanes s).weights) form ∙ ap (logical lanes) (sym same)

  pub packed_length : (n : ℕ) → ((p : P) → length (lanes p) ≡ n) → (ws slice : List P) → stored ≡ Packed ws → slice ≡ ws → length half.weights ≡ length slice * n
  packed_length n long ws slice form same = ap length (packed_weights ws slice form same) ∙ length-logical lanes n long slice
