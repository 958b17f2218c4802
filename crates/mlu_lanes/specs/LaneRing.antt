-- W lanes as a list, and their ring: each operation goes lane by lane.
use lib.Pointwise.{pointwise, pointwise_decides}
use Rattle.std.specs.Prelude.{◌≡◌, ◌↔◌, IsTrue, Bool, ℕ, List, length, map, replicate}
use Rattle.std.proofs.Common.{ap, sym, ◌∙◌, refl}
use Rattle.std.proofs.lemmas.List.{length-map}
use Rattle.std.proofs.lemmas.Simd.{length-zip2, length-replicate}
use Rattle.std.proofs.Math.Nat.{ℕ_set}
use Rattle.std.specs.Simd.Lanes.{zip2}
use mathlib.Core.HLevel.{is_prop→PathP}
use Rattle.mlu_ring.specs.Ring.{Ring, RingLaws, IsRingMap}
use Rattle.mlu_ring.specs.Lanes.{IsLists, IsLaneByLane}
use Rattle.mlu_ring.proofs.EntrywiseLaws.{zip-comm, zip-assoc, zip-unit, zip-inverse, zip-map_second, zip-distrib, zip-replicate, map-replicate}
use Rattle.mlu_ring.proofs.Resized.{resized, length-resized, resized-whole}
use Rattle.mlu_lanes.specs.declared.lanes.Lanes.{Lanes}

-- the lanes in order
abbrev pub values_of : {A : Type 0} {W : ℕ} → Lanes A W → List A
values_of p = p.values

module _ {A : Type 0} (W : ℕ) where
  abbrev pub lanes_of : (xs : List A) → length xs ≡ W → Lanes A W
  lanes_of xs h = record { values = xs; full = h }

  pub same_values : (a b : Lanes A W) → a.values ≡ b.values → a ≡ b
  same_values a b e = λ i. record { values = e i; full = is_prop→PathP (λ j. length (e j) ≡ W) (λ j p q. ℕ_set _ _ p q) a.full b.full i }

  abbrev pub zipped : (A → A → A) → Lanes A W → Lanes A W → Lanes A W
  zipped f a b = lanes_of (zip2 f a.values b.values) (length-zip2 f a.values b.values (a.full ∙ sym b.full) ∙ a.full)

  abbrev pub mapped : (A → A) → Lanes A W → Lanes A W
  mapped f a = lanes_of (map f a.values) (length-map a.values f ∙ a.full)

  -- x in every lane
  abbrev pub splat : A → Lanes A W
  splat x = lanes_of (replicate W x) (length-replicate W x)

  -- where the test of two elements decides their equality, so does the test of two lane by lane
  pub eq_lanes : (E : A → A → Bool) → ((x y : A) → IsTrue (E x y) ↔ (x ≡ y)) → (a b : Lanes A W)
      → IsTrue (pointwise E a.values b.values) ↔ (a ≡ b)
  eq_lanes E decides a b =
      let both = pointwise_decides decides a.values b.values in
      (λ h. same_values a b (both.0 h), λ e. both.1 (ap values_of e))

module _ {A : Type 0} (W : ℕ) (d : A) where
  -- the lanes are those of the list; where it is too short, d stands in the others
  abbrev pub packed_of : List A → Lanes A W
  packed_of xs = lanes_of W (resized d W xs) (length-resized d W xs)

  pub lanes_are_lists : IsLists W values_of packed_of
  lanes_are_lists = record {
    length-parts = λ p. p.full;
    whole-parts = λ p. same_values W _ _ (resized-whole d W p.values p.full);
    parts-whole = resized-whole d W;
  }

-- the operations of a ring, lane by lane
abbrev pub lane_ring : {A : Type 0} (W : ℕ) → Ring A → Ring (Lanes A W)
lane_ring W ring = record {
  zero = splat W ring.zero;
  one = splat W ring.one;
  sum = zipped W ring.sum;
  minus = zipped W ring.minus;
  negation = mapped W ring.negation;
  product = zipped W ring.product;
}

module _ {A : Type 0} (W : ℕ) (ring : Ring A) where
  pub lane_laws : RingLaws ring → RingLaws (lane_ring W ring)
  lane_laws laws = record {
    sum_assoc = λ a b c. same_values W _ _ (zip-assoc ring.sum laws.sum_assoc a.values b.values c.values);
    sum_comm = λ a b. same_values W _ _ (zip-comm ring.sum laws.sum_comm a.values b.values);
    zero_sum = λ a. same_values W _ _ (zip-unit ring.sum ring.zero laws.zero_sum W a.values a.full);
    negation_sum = λ a. same_values W _ _ (zip-inverse ring.sum ring.negation ring.zero laws.negation_sum W a.values a.full);
    minus_is = λ a b. same_values W _ _ (zip-map_second ring.sum ring.minus ring.negation laws.minus_is a.values b.values);
    product_assoc = λ a b c. same_values W _ _ (zip-assoc ring.product laws.product_assoc a.values b.values c.values);
    product_comm = λ a b. same_values W _ _ (zip-comm ring.product laws.product_comm a.values b.values);
    one_product = λ a. same_values W _ _ (zip-unit ring.product ring.one laws.one_product W a.values a.full);
    product_sum = λ a b c. same_values W _ _ (zip-distrib ring.sum ring.product laws.product_sum a.values b.values c.values);
  }

  pub lane_by_lane : IsLaneByLane W values_of (lane_ring W ring) ring
  lane_by_lane = record {
    zero = refl;
    one = refl;
    sum = λ p q. refl;
    minus = λ p q. refl;
    negation = λ p. refl;
    product = λ p q. refl;
  }

  -- an element goes to the lanes that all hold it
  pub splat_is_ring_map : IsRingMap ring (lane_ring W ring) (splat W)
  splat_is_ring_map = record {
    zero = refl;
    one = refl;
    sum = λ a b. same_values W _ _ (sym (zip-replicate ring.sum a b W));
    product = λ a b. same_values W _ _ (sym (zip-replicate ring.product a b W));
  }

  pub splat_two : (two : A) → two ≡ ring.sum ring.one ring.one → splat W two ≡ (lane_ring W ring).sum (splat W ring.one) (splat W ring.one)
  splat_two two h = ap (splat W) h ∙ splat_is_ring_map.sum ring.one ring.one

  pub splat_neg_one : (neg_one : A) → neg_one ≡ ring.negation ring.one → splat W neg_one ≡ (lane_ring W ring).negation (splat W ring.one)
  splat_neg_one neg_one h = ap (splat W) h ∙ same_values W _ _ (sym (map-replicate ring.negation ring.one W))
