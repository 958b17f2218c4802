-- The trivial extension, a ring over itself: the identity embeds it, and an element is its one coefficient.
use Rattle.std.specs.Prelude.{◌≡◌, ◌<◌, ℕ, List, [], ◌∷◌, length, slice_index_or}
use Rattle.std.proofs.Common.{zero, suc, refl, arith}
use Rattle.mlu_ring.specs.Ring.{Ring, IsRingMap}
use Rattle.mlu_ring.specs.Lanes.{IsLists, IsLaneByLane}

pub identity_is_ring_map : {R : Type 0} (ring : Ring R) → IsRingMap ring ring (λ x. x)
identity_is_ring_map ring = record {
  zero = refl;
  one = refl;
  sum = λ a b. refl;
  product = λ a b. refl;
}

module _ {A : Type 0} (d : A) where
  only_list : (vs : List A) → length vs ≡ 1 → (slice_index_or vs 0 d ∷ []) ≡ vs
  only_list [] h = absurd (omega arith)
  only_list (x ∷ []) h = refl
  only_list (x ∷ y ∷ vs) h = absurd (omega arith)

  pub one_coefficient : IsLists 1 (λ (a : A). a ∷ []) (λ vs. slice_index_or vs 0 d)
  one_coefficient = record {
    length-parts = λ a. refl;
    whole-parts = λ a. refl;
    parts-whole = only_list;
  }

-- coefficient c of lane k is lane k of packed coefficient c
pub only_transposed : {P V : Type 0} (z : V) (d : P) (lanes : P → List V) (p : P) (k c : ℕ) → c < 1
    → slice_index_or (slice_index_or (lanes p) k z ∷ []) c z ≡ slice_index_or (lanes (slice_index_or (p ∷ []) c d)) k z
only_transposed z d lanes p k zero h = refl
only_transposed z d lanes p k (suc c) h = absurd (omega arith)

-- an element is its one lane
pub one_lane : {R : Type 0} (ring : Ring R) → IsLaneByLane 1 (λ x. x ∷ []) ring ring
one_lane ring = record {
  zero = refl;
  one = refl;
  sum = λ p q. refl;
  minus = λ p q. refl;
  negation = λ p. refl;
  product = λ p q. refl;
}
