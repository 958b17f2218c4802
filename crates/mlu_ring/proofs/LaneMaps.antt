-- Packed values, each lane of which is the image under a map of rings.
use Rattle.std.specs.Prelude.{◌≡◌, ◌<◌, ℕ, length, map, replicate, slice_index_or}
use Rattle.std.proofs.Common.{sym, ap, ◌∙◌}
use Rattle.std.proofs.lemmas.List.{get_or-map, get_or-replicate, length-map}
use Rattle.std.proofs.lemmas.Simd.{get_or-zip2, length-zip2, length-replicate}
use Rattle.std.specs.Simd.Lanes.{zip2}
use Rattle.mlu_ring.specs.Ring.{Ring, RingLaws, IsRingMap}
use Rattle.mlu_ring.specs.Lanes.{IsLaneByLane}
use Rattle.mlu_ring.proofs.RingMaps.{map-negation, map-minus}
use Rattle.mlu_ring.proofs.Tabulated.{tabulate, length-tabulate, get_or-tabulate, tabulate-entries}

-- a map that agrees with a map of rings is one
pub same_ring_map : {B R : Type 0} (base : Ring B) (ring : Ring R) (f g : B → R) → ((x : B) → g x ≡ f x)
    → IsRingMap base ring f → IsRingMap base ring g
same_ring_map base ring f g same keeps = record {
  zero = same base.zero ∙ keeps.zero;
  one = same base.one ∙ keeps.one;
  sum = λ a b. same (base.sum a b) ∙ keeps.sum a b ∙ ap (λ x. ring.sum x (f b)) (sym (same a)) ∙ ap (ring.sum (g a)) (sym (same b));
  product = λ a b. same (base.product a b) ∙ keeps.product a b ∙ ap (λ x. ring.product x (f b)) (sym (same a)) ∙ ap (ring.product (g a)) (sym (same b));
}

-- where each lane is a map of rings, the operations go lane by lane
module _ {P E : Type 0} (packed : Ring P) (ring : Ring E) (packed_laws : RingLaws packed) (laws : RingLaws ring) (width : ℕ) (lane : P → ℕ → E) (keeps : (k : ℕ) → k < width → IsRingMap packed ring (λ p. lane p k)) where
  zips : (f : P → P → P) (g : E → E → E) → ((k : ℕ) → k < width → (p q : P) → lane (f p q) k ≡ g (lane p k) (lane q k)) → (p q : P)
      → tabulate width (lane (f p q)) ≡ zip2 g (tabulate width (lane p)) (tabulate width (lane q))
  zips f g h p q =
      let long = length-tabulate width (lane p) in
      let long_q = length-tabulate width (lane q) in
      tabulate-entries width (lane (f p q)) ring.zero (zip2 g (tabulate width (lane p)) (tabulate width (lane q)))
      (length-zip2 g (tabulate width (lane p)) (tabulate width (lane q)) (long ∙ sym long_q) ∙ long)
      (λ k b.
      let in_p : k < length (tabulate width (lane p)) = rw long b in
      let in_q : k < length (tabulate width (lane q)) = rw long_q b in
      h k b p q
      ∙ ap (λ e. g e (lane q k)) (sym (get_or-tabulate width (lane p) k ring.zero b))
      ∙ ap (g (slice_index_or (tabulate width (lane p)) k ring.zero)) (sym (get_or-tabulate width (lane q) k ring.zero b))
      ∙ sym (get_or-zip2 g (tabulate width (lane p)) (tabulate width (lane q)) k ring.zero ring.zero ring.zero in_p in_q))

  splats : (p : P) (e : E) → ((k : ℕ) → k < width → lane p k ≡ e) → tabulate width (lane p) ≡ replicate width e
  splats p e h =
      tabulate-entries width (lane p) e (replicate width e) (length-replicate width e)
      (λ k b. h k b ∙ sym (get_or-replicate width k e e b))

  pub lanes_by_ring_maps : IsLaneByLane width (λ p. tabulate width (lane p)) packed ring
  lanes_by_ring_maps = record {
    zero = splats packed.zero ring.zero (λ k b. (keeps k b).zero);
    one = splats packed.one ring.one (λ k b. (keeps k b).one);
    sum = zips packed.sum ring.sum (λ k b. (keeps k b).sum);
    minus = zips packed.minus ring.minus (λ k b. map-minus packed packed_laws ring laws (λ p. lane p k) (keeps k b));
    negation = λ p.
        let long = length-tabulate width (lane p) in
        tabulate-entries width (lane (packed.negation p)) ring.zero (map ring.negation (tabulate width (lane p)))
        (length-map (tabulate width (lane p)) ring.negation ∙ long)
        (λ k b.
        let in_p : k < length (tabulate width (lane p)) = rw long b in
        map-negation packed packed_laws ring laws (λ p. lane p k) (keeps k b) p
        ∙ ap ring.negation (sym (get_or-tabulate width (lane p) k ring.zero b))
        ∙ sym (get_or-map ring.negation (tabulate width (lane p)) k ring.zero ring.zero in_p));
    product = zips packed.product ring.product (λ k b. (keeps k b).product);
  }
