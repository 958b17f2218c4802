-- Sums of products with factors that were multiplied by 2^32.
use Rattle.std.proofs.Common.{◌≡◌, ℕ, ◌+◌, ◌*◌, ◌%◌, ◌^◌, [], ◌∷◌, refl, sym, ap, ◌∙◌}
use Rattle.std.proofs.lemmas.Nat.{mul-mod_second}
use Rattle.mlu_ring.specs.Tables.{pair}
use Rattle.mlu_ring.proofs.Pairs.{pair-scaled_four}
use Rattle.mlu_lanes.specs.BabyBear.{baby_bear_ring, baby_bear_laws, canonical, same_canonical, reduced}
use Rattle.mlu_lanes.specs.declared.baby_bear.BabyBear.{BabyBear}
use Rattle.mlu_lanes.specs.declared.baby_bear.TheConstants.{MODULUS}
use Rattle.mlu_lanes.specs.declared.baby_bear.reduce_each.TheConstants.{RADIX}
use Rattle.mlu_lanes.proofs.ResidueSums.{reduced_once}

module _ {W : ℕ} where
  -- 2^32 and its inverse
  abbrev radix : BabyBear W
  radix = reduced RADIX

  abbrev inverse : BabyBear W
  inverse = reduced 943718400

  radix-inverse : (baby_bear_ring W).product radix inverse ≡ (baby_bear_ring W).one
  radix-inverse = same_canonical _ _ refl

  unscaled : (x : BabyBear W) → (baby_bear_ring W).product ((baby_bear_ring W).product x radix) inverse ≡ x
  unscaled x =
      let laws = baby_bear_laws W in
      let one = (baby_bear_ring W).one in
      laws.product_assoc x radix inverse ∙ ap ((baby_bear_ring W).product x) radix-inverse ∙ laws.product_comm x one ∙ laws.one_product x

  cancel_radix : (x y : BabyBear W) → (baby_bear_ring W).product x radix ≡ (baby_bear_ring W).product y radix → x ≡ y
  cancel_radix x y e = sym (unscaled x) ∙ ap (λ t. (baby_bear_ring W).product t inverse) e ∙ unscaled y

  -- a product, from its product with 2^32, where the second factor was multiplied by that
  pub prepared_product : (a p x : BabyBear W) (fp : ℕ) → fp ≡ canonical p * RADIX % MODULUS → canonical x * 2 ^ 32 % MODULUS ≡ canonical a * fp % MODULUS → x ≡ (baby_bear_ring W).product a p
  prepared_product a p x fp ep is =
      let ring = baby_bear_ring W in
      let scaled : canonical (ring.product x radix) ≡ canonical x * 2 ^ 32 % MODULUS = mul-mod_second (canonical x) (2 ^ 32) MODULUS in
      cancel_radix x _ (same_canonical _ _ (scaled ∙ is ∙ ap (λ f. canonical a * f % MODULUS) ep) ∙ sym ((baby_bear_laws W).product_assoc a p radix))

  -- the sum of four products, from its product with 2^32, where the factors were multiplied by that
  pub prepared_once : (a b c d p q r s x : BabyBear W) (fp fq fr fs : ℕ)
      → fp ≡ canonical p * RADIX % MODULUS → fq ≡ canonical q * RADIX % MODULUS → fr ≡ canonical r * RADIX % MODULUS → fs ≡ canonical s * RADIX % MODULUS
      → canonical x * 2 ^ 32 % MODULUS ≡ (canonical a * fp + canonical b * fq + (canonical c * fr + canonical d * fs)) % MODULUS
      → x ≡ pair (baby_bear_ring W) (a ∷ b ∷ c ∷ d ∷ []) (p ∷ q ∷ r ∷ s ∷ [])
  prepared_once a b c d p q r s x fp fq fr fs ep eq er es is =
      let ring = baby_bear_ring W in
      let scaled : canonical (ring.product x radix) ≡ canonical x * 2 ^ 32 % MODULUS = mul-mod_second (canonical x) (2 ^ 32) MODULUS in
      let sum = reduced_once a b c d (ring.product p radix) (ring.product q radix) (ring.product r radix) (ring.product s radix) (ring.product x radix)
      (scaled ∙ is ∙ cc (ep, eq, er, es)) in
      cancel_radix x _ (sum ∙ pair-scaled_four ring (baby_bear_laws W) a b c d p q r s radix)
