-- The sum of four elements of the base, each times an element of the extension, by coefficients.
use Rattle.std.proofs.Common.{◌≡◌, ℕ, ◌<◌, List, [], ◌∷◌, length, map, get_or, sym, ap, refl, ◌∙◌, arith, lit<}
use Rattle.std.specs.Simd.Lanes.{zip2}
use Rattle.std.proofs.lemmas.List.{get_or-map}
use Rattle.std.proofs.lemmas.Simd.{get_or-zip2}
use Rattle.mlu_ring.specs.Ring.{Ring, RingLaws}
use Rattle.mlu_ring.specs.Lanes.{IsLists}
use Rattle.mlu_ring.specs.Tables.{pair}
use Rattle.mlu_ring.proofs.Pairs.{pair-of_four}

module _ {B E : Type 0} (base : Ring B) (base_laws : RingLaws base) (ext : Ring E) (ext_laws : RingLaws ext) (coefficients : E → List B) (of_coefficients : List B → E) (are : IsLists 4 coefficients of_coefficients)
    (embed : B → E) (sum : (a b : E) → coefficients (ext.sum a b) ≡ zip2 base.sum (coefficients a) (coefficients b))
    (scale : (a : E) (f : B) → coefficients (ext.product a (embed f)) ≡ map (λ c. base.product c f) (coefficients a)) where
  abbrev at : ℕ → E → B
  at k a = get_or (coefficients a) k base.zero

  at-sum : (k : ℕ) → k < 4 → (a b : E) → at k (ext.sum a b) ≡ base.sum (at k a) (at k b)
  at-sum k h a b =
      ap (λ l. get_or l k base.zero) (sum a b)
      ∙ get_or-zip2 base.sum (coefficients a) (coefficients b) k base.zero base.zero base.zero (rw (are.length-parts a) h) (rw (are.length-parts b) h)

  at-scale : (k : ℕ) → k < 4 → (a : E) (f : B) → at k (ext.product a (embed f)) ≡ base.product f (at k a)
  at-scale k h a f =
      ap (λ l. get_or l k base.zero) (scale a f)
      ∙ get_or-map (λ c. base.product c f) (coefficients a) k base.zero base.zero (rw (are.length-parts a) h)
      ∙ base_laws.product_comm (at k a) f

  at-four : (k : ℕ) → k < 4 → (a b c d : E) (p q u v : B)
      → at k (pair ext (a ∷ b ∷ c ∷ d ∷ []) (embed p ∷ embed q ∷ embed u ∷ embed v ∷ [])) ≡ pair base (p ∷ q ∷ u ∷ v ∷ []) (at k a ∷ at k b ∷ at k c ∷ at k d ∷ [])
  at-four k h a b c d p q u v =
      let scaled = at-scale k h in
      ap (at k) (pair-of_four ext ext_laws a b c d (embed p) (embed q) (embed u) (embed v))
      ∙ at-sum k h (ext.sum (ext.product a (embed p)) (ext.product b (embed q))) (ext.sum (ext.product c (embed u)) (ext.product d (embed v)))
      ∙ (λ i. base.sum (at-sum k h (ext.product a (embed p)) (ext.product b (embed q)) i) (at-sum k h (ext.product c (embed u)) (ext.product d (embed v)) i))
      ∙ (λ i. base.sum (base.sum (scaled a p i) (scaled b q i)) (base.sum (scaled c u i) (scaled d v i)))
      ∙ sym (pair-of_four base base_laws p q u v (at k a) (at k b) (at k c) (at k d))

  -- an element with the coefficients of the sum is the sum
  pub four_scaled : (r a b c d : E) (p q u v : B)
      → coefficients r ≡ pair base (p ∷ q ∷ u ∷ v ∷ []) (at 0 a ∷ at 0 b ∷ at 0 c ∷ at 0 d ∷ []) ∷ pair base (p ∷ q ∷ u ∷ v ∷ []) (at 1 a ∷ at 1 b ∷ at 1 c ∷ at 1 d ∷ [])
      ∷ pair base (p ∷ q ∷ u ∷ v ∷ []) (at 2 a ∷ at 2 b ∷ at 2 c ∷ at 2 d ∷ []) ∷ pair base (p ∷ q ∷ u ∷ v ∷ []) (at 3 a ∷ at 3 b ∷ at 3 c ∷ at 3 d ∷ []) ∷ []
      → r ≡ pair ext (a ∷ b ∷ c ∷ d ∷ []) (embed p ∷ embed q ∷ embed u ∷ embed v ∷ [])
  four_scaled r a b c d p q u v is =
      let whole = pair ext (a ∷ b ∷ c ∷ d ∷ []) (embed p ∷ embed q ∷ embed u ∷ embed v ∷ []) in
      sym (are.whole-parts r)
      ∙ ap of_coefficients (is ∙ sym (listed (coefficients whole) (are.length-parts whole)
      ∙ (λ i. at-four 0 (lit< tt) a b c d p q u v i ∷ at-four 1 (lit< tt) a b c d p q u v i ∷ at-four 2 (lit< tt) a b c d p q u v i ∷ at-four 3 (lit< tt) a b c d p q u v i ∷ [])))
      ∙ are.whole-parts whole
    where
      listed : (l : List B) → length l ≡ 4 → l ≡ get_or l 0 base.zero ∷ get_or l 1 base.zero ∷ get_or l 2 base.zero ∷ get_or l 3 base.zero ∷ []
      listed (x ∷ y ∷ z ∷ w ∷ []) long = refl
      listed [] long = absurd (omega arith)
      listed (x ∷ []) long = absurd (omega arith)
      listed (x ∷ y ∷ []) long = absurd (omega arith)
      listed (x ∷ y ∷ z ∷ []) long = absurd (omega arith)
      listed (x ∷ y ∷ z ∷ w ∷ v ∷ l) long = absurd (omega arith)
