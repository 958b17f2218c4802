-- Products of packed residues and sums of four, from lanes that are reduced once.
use Rattle.std.proofs.Common.{◌≡◌, ℕ, ◌+◌, ◌*◌, ◌%◌, ◌^◌, ◌<◌, List, [], ◌∷◌, map, length, replicate, get_or, refl, ap, sym, ◌∙◌, arith}
use Rattle.std.proofs.lemmas.List.{ext_get_or, get_or-replicate}
use Rattle.std.proofs.lemmas.Simd.{length-replicate}
use Rattle.mlu_ring.proofs.Resized.{resized-whole}
use Rattle.mlu_ring.specs.Lanes.{splat_of}
use Rattle.mlu_ring.specs.Tables.{pair}
use Rattle.mlu_lanes.specs.BabyBear.{baby_bear_ring, baby_bear_laws, canonical, reduced, same_canonical}
use Rattle.mlu_lanes.specs.LaneRing.{lane_ring, packed_of, same_values}
use Rattle.mlu_lanes.specs.Packed.{residue}
use Rattle.mlu_lanes.specs.declared.baby_bear.BabyBear.{BabyBear}
use Rattle.mlu_lanes.specs.declared.baby_bear.TheConstants.{MODULUS}
use Rattle.mlu_lanes.specs.declared.baby_bear.reduce_each.TheConstants.{RADIX}
use Rattle.mlu_lanes.specs.declared.lanes.Lanes.{Lanes}
use Rattle.mlu_lanes.proofs.Prepared.{prepared_product, prepared_once}
use Rattle.mlu_lanes.proofs.OneLane.{lane_is_ring_map, lane_of_four_products}
use Rattle.mlu_lanes.proofs.ResidueSums.{reduced_once}

-- a list of four, from what is read of it
pub read_four : {A : Type 0} (xs : List A) (a b c d : A) → length xs ≡ 4
    → a ≡ get_or xs 0 a → b ≡ get_or xs 1 b → c ≡ get_or xs 2 c → d ≡ get_or xs 3 d → xs ≡ a ∷ b ∷ c ∷ d ∷ []
read_four (w ∷ x ∷ y ∷ z ∷ []) a b c d long at_0 at_1 at_2 at_3 = cc (at_0, at_1, at_2, at_3)
read_four xs a b c d long at_0 at_1 at_2 at_3 = absurd (omega arith)

module _ {W : ℕ} where
  same_lanes : (p q : Lanes (BabyBear W) W)
      → ((j : ℕ) → j < W → get_or p.values j (reduced 0) ≡ get_or q.values j (reduced 0)) → p ≡ q
  same_lanes p q same =
      let full = p.full in
      same_values W p q (ext_get_or (reduced 0) p.values q.values (full ∙ sym q.full) (λ j below. same j (omega (arith, full, below))))

  pub product_of_residues : (a b product : Lanes (BabyBear W) W)
      → ((j : ℕ) → j < W → residue product j ≡ residue a j * residue b j % MODULUS)
      → product ≡ (lane_ring W (baby_bear_ring W)).product a b
  product_of_residues a b product each =
      same_lanes product _ (λ j below.
      let by_lane = lane_is_ring_map W (baby_bear_ring W) j below in
      same_canonical _ _ (each j below) ∙ sym (by_lane.product a b))

  pub sum_of_residues : (a b c d p q r s sum : Lanes (BabyBear W) W)
      → ((j : ℕ) → j < W → residue sum j
      ≡ (residue a j * residue p j + residue b j * residue q j + (residue c j * residue r j + residue d j * residue s j)) % MODULUS)
      → sum ≡ pair (lane_ring W (baby_bear_ring W)) (a ∷ b ∷ c ∷ d ∷ []) (p ∷ q ∷ r ∷ s ∷ [])
  sum_of_residues a b c d p q r s sum each =
      same_lanes sum _ (λ j below.
      reduced_once _ _ _ _ _ _ _ _ _ (each j below)
      ∙ sym (lane_of_four_products W (baby_bear_ring W) j below (baby_bear_laws W) a b c d p q r s))

  -- the value in every lane
  lane_of_splat : (c : BabyBear W) (j : ℕ) → j < W → get_or (splat_of W (packed_of W (reduced 0)) c).values j (reduced 0) ≡ c
  lane_of_splat c j below =
      let lanes = resized-whole (reduced 0) W (replicate W c) (length-replicate W c) in
      ap (λ values. get_or values j (reduced 0)) lanes ∙ get_or-replicate W j c (reduced 0) below

  -- the products with a packed value whose lanes were multiplied by 2^32
  pub product_of_prepared_lanes : (a p product : Lanes (BabyBear W) W)
      → ((j : ℕ) → j < W → residue product j * 2 ^ 32 % MODULUS ≡ residue a j * (residue p j * RADIX % MODULUS) % MODULUS)
      → product ≡ (lane_ring W (baby_bear_ring W)).product a p
  product_of_prepared_lanes a p product each =
      same_lanes product _ (λ j below.
      let by_lane = lane_is_ring_map W (baby_bear_ring W) j below in
      prepared_product (get_or a.values j (reduced 0)) (get_or p.values j (reduced 0)) _ _ refl (each j below) ∙ sym (by_lane.product a p))

  -- the products with an element that was multiplied by 2^32
  pub product_of_prepared : (a product : Lanes (BabyBear W) W) (c : BabyBear W) (f : ℕ) → f ≡ canonical c * RADIX % MODULUS
      → ((j : ℕ) → j < W → residue product j * 2 ^ 32 % MODULUS ≡ residue a j * f % MODULUS)
      → product ≡ (lane_ring W (baby_bear_ring W)).product a (splat_of W (packed_of W (reduced 0)) c)
  product_of_prepared a product c f is each =
      let splat = splat_of W (packed_of W (reduced 0)) c in
      same_lanes product _ (λ j below.
      let by_lane = lane_is_ring_map W (baby_bear_ring W) j below in
      prepared_product (get_or a.values j (reduced 0)) c _ f is (each j below)
      ∙ ap ((baby_bear_ring W).product (get_or a.values j (reduced 0))) (sym (lane_of_splat c j below))
      ∙ sym (by_lane.product a splat))

  -- the sum of four products with elements that were multiplied by 2^32
  pub sum_of_prepared : (a b c d sum : Lanes (BabyBear W) W) (p q r s : BabyBear W) (fp fq fr fs : ℕ)
      → fp ≡ canonical p * RADIX % MODULUS → fq ≡ canonical q * RADIX % MODULUS → fr ≡ canonical r * RADIX % MODULUS → fs ≡ canonical s * RADIX % MODULUS
      → ((j : ℕ) → j < W → residue sum j * 2 ^ 32 % MODULUS ≡ (residue a j * fp + residue b j * fq + (residue c j * fr + residue d j * fs)) % MODULUS)
      → sum ≡ pair (lane_ring W (baby_bear_ring W)) (a ∷ b ∷ c ∷ d ∷ []) (map (splat_of W (packed_of W (reduced 0))) (p ∷ q ∷ r ∷ s ∷ []))
  sum_of_prepared a b c d sum p q r s fp fq fr fs ep eq er es each =
      let ring = baby_bear_ring W in
      let splat = splat_of W (packed_of W (reduced 0)) in
      let at = λ (l : Lanes (BabyBear W) W) (j : ℕ). get_or l.values j (reduced 0) in
      same_lanes sum _ (λ j below.
      prepared_once (at a j) (at b j) (at c j) (at d j) p q r s (at sum j) fp fq fr fs ep eq er es (each j below)
      ∙ sym (λ i. pair ring (at a j ∷ at b j ∷ at c j ∷ at d j ∷ []) (lane_of_splat p j below i ∷ lane_of_splat q j below i ∷ lane_of_splat r j below i ∷ lane_of_splat s j below i ∷ []))
      ∙ sym (lane_of_four_products W ring j below (baby_bear_laws W) a b c d (splat p) (splat q) (splat r) (splat s)))
