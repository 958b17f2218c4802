-- One lane of many: the map to it keeps the operations, and so the sums of four products.
use Rattle.std.proofs.Common.{◌≡◌, ℕ, ◌<◌, [], ◌∷◌, get_or}
use Rattle.std.proofs.lemmas.List.{get_or-replicate}
use Rattle.std.proofs.lemmas.Simd.{get_or-zip2}
use Rattle.std.specs.Simd.Lanes.{zip2}
use Rattle.mlu_ring.specs.Ring.{Ring, RingLaws, IsRingMap}
use Rattle.mlu_ring.specs.Tables.{pair}
use Rattle.mlu_ring.proofs.Pairs.{pair-of_four}
use Rattle.mlu_lanes.specs.LaneRing.{values_of, lane_ring, lane_laws}
use Rattle.mlu_lanes.specs.declared.lanes.Lanes.{Lanes}

module _ {A : Type 0} (W : ℕ) (ring : Ring A) (k : ℕ) (below : k < W) where
  abbrev at : Lanes A W → A
  at p = get_or (values_of p) k ring.zero

  lane-zip : (f : A → A → A) (p q : Lanes A W) → get_or (zip2 f (values_of p) (values_of q)) k ring.zero ≡ f (at p) (at q)
  lane-zip f p q = get_or-zip2 f (values_of p) (values_of q) k ring.zero ring.zero ring.zero (rw p.full below) (rw q.full below)

  pub lane_is_ring_map : IsRingMap (lane_ring W ring) ring at
  lane_is_ring_map = record {
    zero = get_or-replicate W k ring.zero ring.zero below;
    one = get_or-replicate W k ring.one ring.zero below;
    sum = lane-zip ring.sum;
    product = lane-zip ring.product;
  }

  pub lane_of_four_products : (laws : RingLaws ring) (a b c d p q r s : Lanes A W)
      → at (pair (lane_ring W ring) (a ∷ b ∷ c ∷ d ∷ []) (p ∷ q ∷ r ∷ s ∷ []))
      ≡ pair ring (at a ∷ at b ∷ at c ∷ at d ∷ []) (at p ∷ at q ∷ at r ∷ at s ∷ [])
  lane_of_four_products laws a b c d p q r s =
      let lanes = lane_ring W ring in
      let keeps = lane_is_ring_map in
      let first = lanes.product a p in
      let second = lanes.product b q in
      let third = lanes.product c r in
      let fourth = lanes.product d s in
      let whole = pair-of_four lanes (lane_laws W ring laws) a b c d p q r s in
      let by_lane = pair-of_four ring laws (at a) (at b) (at c) (at d) (at p) (at q) (at r) (at s) in
      cc (
        whole,
        by_lane,
        keeps.sum (lanes.sum first second) (lanes.sum third fourth),
        keeps.sum first second,
        keeps.sum third fourth,
        keeps.product a p,
        keeps.product b q,
        keeps.product c r,
        keeps.product d s,
      )
