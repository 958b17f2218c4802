-- What a half table stands for, whichever form its weights have.
use Rattle.std.specs.Prelude.{◌≡◌, ℕ, ◌*◌, List, Bool, length, true, false}
use Rattle.mlu_ring.specs.Lanes.{logical}
use Rattle.mlu_eq.specs.declared.half.Stored.{Stored}
use Rattle.mlu_eq.specs.declared.half.Stored.TheVariants.{Scalar, Packed}
use Rattle.mlu_eq.specs.declared.half.Weights.{Weights}
use Rattle.mlu_eq.specs.declared.half.Weights.TheVariants as W

-- the weights, and whether they are kept packed
pub record Half (E : Type 0) : Type 0 where
  pub weights : List E
  pub packed : Bool

-- the lanes of packed weights are joined in order
abbrev pub half_of : {F E Q P O : Type 0} → (P → List E) → Stored F E Q P O → Half E
half_of lanes (Scalar es) = record { weights = es; packed = false }
half_of lanes (Packed ps) = record { weights = logical lanes ps; packed = true }

-- the slices are the weights of the half, in the form that it keeps
abbrev pub AreWeightsOf : {F E Q P O : Type 0} → (P → List E) → ℕ → Half E → Weights F E Q P O → Type 0
AreWeightsOf lanes width half (W.Scalar es) = half ≡ record { weights = es.now; packed = false }
AreWeightsOf lanes width half (W.Packed ps) = (half ≡ record { weights = logical lanes ps.now; packed = true }) × (length half.weights ≡ length ps.now * width)
