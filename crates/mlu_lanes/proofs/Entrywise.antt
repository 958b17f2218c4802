-- Loops and products that go lane by lane.
use Rattle.std.proofs.Common.{◌≡◌, ◌≢◌, ◌<◌, ◌+◌, ℕ, List, length, get_or, set, arith, below_more, get_or-set_other, get_or-set_same, length-set}
use Rattle.std.proofs.lemmas.List.{get_or_default}
use Rattle.mlu_ring.specs.Ring.{Ring}
use Rattle.mlu_lanes.specs.LaneRing.{lane_ring}
use Rattle.mlu_lanes.specs.Entrywise.{EntrywiseTriple, zipped_by}
use Rattle.mlu_lanes.specs.declared.lanes.Lanes.{Lanes}

module _ {A : Type 0} {W : ℕ} where
  -- lane k is written: below k the values are related to the lanes of a and b
  pub written_next : (P : A → A → A → Type 0) (a b : Lanes A W) (values : List A) (k : ℕ) (x y z : A) → k < W → length values ≡ W
      → P (get_or a.values k x) (get_or b.values k y) z → EntrywiseTriple k P a.values b.values values
      → (length (set values k z) ≡ W) × EntrywiseTriple (k + 1) P a.values b.values (set values k z)
  written_next P a b values k x y z below long related done =
      let full_a = a.full in
      let full_b = b.full in
      let in_a : k < length a.values = omega (arith, full_a, below) in
      let in_b : k < length b.values = omega (arith, full_b, below) in
      let in_values : k < length values = omega (arith, long, below) in (
        rw length-set long,
        below_more _ _
            (λ j h d. let other : j ≢ k = omega arith in rw (get_or-set_other values k j z d other) (done j h d))
            (λ d. rw (get_or-set_same values k z d in_values, get_or_default a.values k d x in_a, get_or_default b.values k d y in_b) related),
      )

  -- lanes that are products are those of the product
  pub product_by_lane : (ring : Ring A) (a b r : Lanes A W) → EntrywiseTriple W (λ x y z. z ≡ ring.product x y) a.values b.values r.values
      → r ≡ (lane_ring W ring).product a b
  product_by_lane ring = zipped_by W (λ x y z. z ≡ ring.product x y) ring.product (λ x y z h. h) ring.zero
