-- Equality tables: of the images of a point, of two points joined, and in packed form.
use Rattle.std.proofs.Common.{◌≡◌, ℕ, zero, suc, List, [], ◌∷◌, ◌++◌, map, flat_map, length, replicate, refl, sym, ap, ◌∙◌, arith}
use Rattle.std.proofs.lemmas.List.{map-append, append-nil}
use Rattle.std.proofs.lemmas.Grind.{flat_map-append}
use Rattle.std.specs.Simd.Lanes.{zip2}
use Rattle.mlu_ring.specs.Ring.{Ring, RingLaws, IsRingMap}
use Rattle.mlu_ring.specs.Lanes.{IsLaneByLane, logical}
use Rattle.mlu_ring.specs.Tables.{weights}
use Rattle.mlu_ring.proofs.Doubling.{weights-none, weights-first, map_twice}
use Rattle.mlu_ring.proofs.RingMaps.{map-minus}

module _ {B R : Type 0} (base : Ring B) (base_laws : RingLaws base) (ring : Ring R) (laws : RingLaws ring) (f : B → R) (keeps : IsRingMap base ring f) where
  half : (c : B) (d : R) (ws : List B) → f c ≡ d → map (λ w. ring.product d w) (map f ws) ≡ map f (map (λ w. base.product c w) ws)
  half c d ws e =
      map_twice (λ w. ring.product d w) f (λ w. f (base.product c w)) (λ w. ap (λ t. ring.product t (f w)) (sym e) ∙ sym (keeps.product c w)) ws
      ∙ sym (map_twice f (λ w. base.product c w) (λ w. f (base.product c w)) (λ w. refl) ws)

  -- the weights at the image of a point are the images of the weights
  pub weights-map : (p : List B) → weights ring (map f p) ≡ map f (weights base p)
  weights-map [] = weights-none ring laws ∙ ap (λ t. t ∷ []) (sym keeps.one) ∙ ap (map f) (sym (weights-none base base_laws))
  weights-map (c ∷ p) =
      let rest = weights-map p in
      let at_one : f (base.minus base.one c) ≡ ring.minus ring.one (f c) = map-minus base base_laws ring laws f keeps base.one c ∙ ap (λ t. ring.minus t (f c)) keeps.one in
      weights-first ring laws (f c) (map f p)
      ∙ ap (λ ws. map (λ w. ring.product (ring.minus ring.one (f c)) w) ws ++ map (λ w. ring.product (f c) w) ws) rest
      ∙ ap (λ ws. ws ++ map (λ w. ring.product (f c) w) (map f (weights base p))) (half (base.minus base.one c) (ring.minus ring.one (f c)) (weights base p) at_one)
      ∙ ap (λ ws. map f (map (λ w. base.product (base.minus base.one c) w) (weights base p)) ++ ws) (half c (f c) (weights base p) refl)
      ∙ sym (map-append f (map (λ w. base.product (base.minus base.one c) w) (weights base p)) (map (λ w. base.product c w) (weights base p)))
      ∙ ap (map f) (sym (weights-first base base_laws c p))

module _ {R : Type 0} (ring : Ring R) (laws : RingLaws ring) where
  infixl 60 ◌⊗◌
  open ring use {product as ◌⊗◌}

  -- each of the second list times each of the first, row after row
  abbrev pub rows : List R → List R → List R
  rows bs ws = flat_map (λ w. map (λ v. w ⊗ v) bs) ws

  pub rows-scaled : (c : R) (bs ws : List R) → rows bs (map (λ w. c ⊗ w) ws) ≡ map (λ w. c ⊗ w) (rows bs ws)
  rows-scaled c bs [] = refl
  rows-scaled c bs (w ∷ ws) =
      ap (λ l. map (λ v. (c ⊗ w) ⊗ v) bs ++ l) (rows-scaled c bs ws)
      ∙ ap (λ l. l ++ map (λ v. c ⊗ v) (rows bs ws)) (sym (map_twice (λ v. c ⊗ v) (λ v. w ⊗ v) (λ v. (c ⊗ w) ⊗ v) (λ v. sym (laws.product_assoc c w v)) bs))
      ∙ sym (map-append (λ v. c ⊗ v) (map (λ v. w ⊗ v) bs) (rows bs ws))

  rows-one : (bs : List R) → rows bs (ring.one ∷ []) ≡ bs
  rows-one bs = append-nil (map (λ v. ring.one ⊗ v) bs) ∙ ones bs
    where
      ones : (bs : List R) → map (λ v. ring.one ⊗ v) bs ≡ bs
      ones [] = refl
      ones (b ∷ bs) =
          let first = laws.one_product b in
          let rest = ones bs in
          cc (first, rest)

  -- the weights at the joined point are a row of weights for each weight of the first point
  pub weights-joined : (a b : List R) → weights ring (a ++ b) ≡ rows (weights ring b) (weights ring a)
  weights-joined [] b = sym (ap (rows (weights ring b)) (weights-none ring laws) ∙ rows-one (weights ring b))
  weights-joined (c ∷ a) b =
      let low = λ (w : R). ring.minus ring.one c ⊗ w in
      let high = λ (w : R). c ⊗ w in
      weights-first ring laws c (a ++ b)
      ∙ ap (λ ws. map low ws ++ map high ws) (weights-joined a b)
      ∙ ap (λ ws. ws ++ map high (rows (weights ring b) (weights ring a))) (sym (rows-scaled (ring.minus ring.one c) (weights ring b) (weights ring a)))
      ∙ ap (λ ws. rows (weights ring b) (map low (weights ring a)) ++ ws) (sym (rows-scaled c (weights ring b) (weights ring a)))
      ∙ sym (flat_map-append (λ w. map (λ v. w ⊗ v) (weights ring b)) (map low (weights ring a)) (map high (weights ring a)))
      ∙ ap (rows (weights ring b)) (sym (weights-first ring laws c a))

module _ {P V : Type 0} (width : ℕ) (lanes : P → List V) (packed : Ring P) (ring : Ring V) (laws : RingLaws ring) (each : IsLaneByLane width lanes packed ring) (embed : V → P) (embeds : (x : V) → lanes (embed x) ≡ replicate width x) where
  zip-replicate : (n : ℕ) (w : V) (vs : List V) → length vs ≡ n → zip2 ring.product vs (replicate n w) ≡ map (λ v. ring.product v w) vs
  zip-replicate zero w [] h = refl
  zip-replicate zero w (v ∷ vs) h = absurd (omega arith)
  zip-replicate (suc n) w [] h = absurd (omega arith)
  zip-replicate (suc n) w (v ∷ vs) h = ap (λ l. ring.product v w ∷ l) (zip-replicate n w vs (omega arith))

  one_row : (seed : P) (c : V) (bs : List V) (w : V) → lanes seed ≡ map (λ v. ring.product c v) bs → length (lanes seed) ≡ width
      → lanes (packed.product seed (embed w)) ≡ map (λ v. ring.product c v) (map (λ v. ring.product w v) bs)
  one_row seed c bs w is long =
      each.product seed (embed w)
      ∙ ap (λ l. zip2 ring.product (lanes seed) l) (embeds w)
      ∙ zip-replicate width w (lanes seed) long
      ∙ ap (map (λ v. ring.product v w)) is
      ∙ map_twice (λ v. ring.product v w) (λ v. ring.product c v) (λ v. ring.product c (ring.product w v)) (λ v. turned v) bs
      ∙ sym (map_twice (λ v. ring.product c v) (λ v. ring.product w v) (λ v. ring.product c (ring.product w v)) (λ v. refl) bs)
    where
      turned : (v : V) → ring.product (ring.product c v) w ≡ ring.product c (ring.product w v)
      turned v = laws.product_assoc c v w ∙ ap (ring.product c) (laws.product_comm v w)

  rows_of-seed : (seed : P) (c : V) (bs ws : List V) → lanes seed ≡ map (λ v. ring.product c v) bs → length (lanes seed) ≡ width
      → logical lanes (map (packed.product seed) (map embed ws)) ≡ map (λ v. ring.product c v) (rows ring laws bs ws)
  rows_of-seed seed c bs [] is long = refl
  rows_of-seed seed c bs (w ∷ ws) is long =
      ap (λ l. l ++ logical lanes (map (packed.product seed) (map embed ws))) (one_row seed c bs w is long)
      ∙ ap (λ l. map (λ v. ring.product c v) (map (λ v. ring.product w v) bs) ++ l) (rows_of-seed seed c bs ws is long)
      ∙ sym (map-append (λ v. ring.product c v) (map (λ v. ring.product w v) bs) (rows ring laws bs ws))

  -- a seed with the weights of the last coordinates as its lanes, times the weights of the others
  pub logical-table : (packed_laws : RingLaws packed) (keeps : IsRingMap ring packed embed) (seed : P) (c : V) (a b : List V) (table : List P) → lanes seed ≡ map (ring.product c) (weights ring b) → length (lanes seed) ≡ width
      → table ≡ map (packed.product seed) (weights packed (map embed a)) → logical lanes table ≡ map (ring.product c) (weights ring (a ++ b))
  logical-table packed_laws keeps seed c a b table is long made =
      ap (logical lanes) (made ∙ ap (map (packed.product seed)) (weights-map ring laws packed packed_laws embed keeps a))
      ∙ rows_of-seed seed c (weights ring b) (weights ring a) is long
      ∙ ap (map (ring.product c)) (sym (weights-joined ring laws a b))
