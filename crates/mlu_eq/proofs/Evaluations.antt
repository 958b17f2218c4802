-- The value of a table from the first coordinate of the point and the values of the two halves.
use Rattle.std.proofs.Common.{◌≡◌, suc, ◌-◌, ◌/◌, ◌^◌, ◌≤◌, List, [], ◌∷◌, map, length, get_or, take, drop, refl, sym, ap, ◌∙◌, arith}
use Rattle.std.proofs.lemmas.List.{length-map, take-map, drop-map, take_all}
use Rattle.mlu_ring.specs.Ring.{Ring, RingLaws}
use Rattle.mlu_ring.specs.Tables.{value}
use Rattle.mlu_ring.proofs.Values.{value-none, value-first}
use Rattle.mlu_eq.specs.Combine.{interpolated}

module _ {B R : Type 0} (f : B → R) where
  -- the halves of an image
  pub map-lower : (es front : List B) → front ≡ take (length es / 2) es → map f front ≡ take (length (map f es) / 2) (map f es)
  map-lower es front is = ap (map f) is ∙ rw (length-map, take-map) refl

  pub map-upper : (es back : List B) → back ≡ drop (length es / 2) es → map f back ≡ drop (length (map f es) / 2) (map f es)
  map-upper es back is = ap (map f) is ∙ rw (length-map, drop-map) refl

module _ {R : Type 0} (ring : Ring R) (laws : RingLaws ring) where
  -- with one variable
  pub value-two : (e p : List R) (c a b r : R) → length p ≡ 1 → length e ≡ 2 ^ length p → c ≡ get_or p 0 c → a ≡ get_or e 0 a → b ≡ get_or e 1 b → r ≡ interpolated ring c a b → r ≡ value ring e p
  value-two (x ∷ y ∷ []) (z ∷ []) c a b r long size at first second is =
      let step = value-first ring laws (x ∷ y ∷ []) z [] in
      let low = value-none ring laws (x ∷ []) in
      let high = value-none ring laws (y ∷ []) in
      cc (at, first, second, is, step, low, high)
  value-two e p c a b r long size at first second is = absurd (omega (arith, long, size, ap (λ n. 2 ^ n) long))

  -- with more variables
  pub value-halves : (e p front back : List R) (c low high r : R) → 1 ≤ length p → length e ≡ 2 ^ length p → c ≡ get_or p 0 c → front ≡ take (length e / 2) e → back ≡ drop (length e / 2) e → low ≡ value ring front (take (length p - 1) (drop 1 p)) → high ≡ value ring back (take (length p - 1) (drop 1 p)) → r ≡ interpolated ring c low high → r ≡ value ring e p
  value-halves e [] front back c low high r long size at lower upper first second is = absurd (omega arith)
  value-halves e (z ∷ p) front back c low high r long size at lower upper first second is =
      let doubled : length e ≡ 2 ^ suc (length p) = size in
      let half : length e / 2 ≡ 2 ^ length p = omega (arith, doubled) in
      let rest : take (suc (length p) - 1) p ≡ p = take_all (suc (length p) - 1) p (omega arith) in
      let step = value-first ring laws e z p in
      let low_is = first ∙ ap (value ring front) rest ∙ ap (λ t. value ring t p) (lower ∙ ap (λ n. take n e) half) in
      let high_is = second ∙ ap (value ring back) rest ∙ ap (λ t. value ring t p) (upper ∙ ap (λ n. drop n e) half) in
      is ∙ ap (λ t. interpolated ring t low high) at ∙ ap (λ t. interpolated ring z t high) low_is ∙ ap (λ t. interpolated ring z (value ring (take (2 ^ length p) e) p) t) high_is ∙ sym step
