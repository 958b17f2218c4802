-- Elements of one coefficient: they add and multiply as their coefficients do.
use Rattle.std.proofs.Common.{◌≡◌, ℕ, ◌+◌, ◌<◌, List, [], ◌∷◌, ◌++◌, length, map, get_or, set, take, refl, sym, ap, ◌∙◌, arith}
use Rattle.std.specs.Simd.Lanes.{zip2}
use Rattle.std.proofs.lemmas.List.{map-append, take_more, take_more_set}
use Rattle.mlu_ring.specs.Ring.{Ring, RingLaws}
use Rattle.mlu_ring.specs.Lanes.{IsLists}
use Rattle.mlu_ring.specs.Tables.{pair}
use Rattle.mlu_ring.proofs.Rings.{sum_zero, sum_cancel}
use Rattle.mlu_ring.proofs.Totals.{pair-nil, pair-cons}

pub set-only : {B : Type 0} (l : List B) (c : B) → length l ≡ 1 → set l 0 c ≡ c ∷ []
set-only (x ∷ []) c long = refl
set-only [] c long = absurd (omega arith)
set-only (x ∷ y ∷ l) c long = absurd (omega arith)

module _ {B E : Type 0} (coefficients : E → List B) (of_coefficients : List B → E) (are : IsLists 1 coefficients of_coefficients) where
  -- the element with this coefficient
  abbrev constant : B → E
  constant c = of_coefficients (c ∷ [])

  pub has_coefficient : (c : B) (e : E) → coefficients e ≡ c ∷ [] → constant c ≡ e
  has_coefficient c e is = ap of_coefficients (sym is) ∙ are.whole-parts e

  pub of_its_coefficient : (z : B) (e : E) → constant (get_or (coefficients e) 0 z) ≡ e
  of_its_coefficient z e = has_coefficient _ e (listed (coefficients e) (are.length-parts e))
    where
      listed : (l : List B) → length l ≡ 1 → l ≡ get_or l 0 z ∷ []
      listed (x ∷ []) long = refl
      listed [] long = absurd (omega arith)
      listed (x ∷ y ∷ l) long = absurd (omega arith)

  -- one more coefficient is read
  pub constants-more : (column : List B) (ws : List E) (i : ℕ) (w : E) (c : B) → i < length column → i < length ws → w ≡ get_or ws i w
      → ((z : B) → c ≡ get_or (coefficients w) 0 z) → map constant (take i column) ≡ take i ws → map constant (take (i + 1) (set column i c)) ≡ take (i + 1) ws
  constants-more column ws i w c in_column in_ws at is so_far =
      ap (map constant) (take_more_set column i c in_column)
      ∙ map-append constant (take i column) (c ∷ [])
      ∙ (λ k. so_far k ++ (ap constant (is c) ∙ of_its_coefficient c w ∙ at) k ∷ [])
      ∙ sym (take_more ws i w in_ws)

  module _ (base : Ring B) (base_laws : RingLaws base) (ext : Ring E) (ext_laws : RingLaws ext) (embed : B → E)
      (sum : (a b : E) → coefficients (ext.sum a b) ≡ zip2 base.sum (coefficients a) (coefficients b))
      (scale : (a : E) (f : B) → coefficients (ext.product a (embed f)) ≡ map (λ c. base.product c f) (coefficients a)) where
    coefficient : (c : B) → coefficients (constant c) ≡ c ∷ []
    coefficient c = are.parts-whole (c ∷ []) refl

    constant-sum : (a b : B) → constant (base.sum a b) ≡ ext.sum (constant a) (constant b)
    constant-sum a b = has_coefficient _ _ (sum (constant a) (constant b) ∙ (λ i. zip2 base.sum (coefficient a i) (coefficient b i)))

    constant-product : (a b : B) → constant (base.product a b) ≡ ext.product (constant a) (embed b)
    constant-product a b = has_coefficient _ _ (scale (constant a) b ∙ ap (map (λ c. base.product c b)) (coefficient a))

    constant-zero : constant base.zero ≡ ext.zero
    constant-zero =
        let z = constant base.zero in
        sum_cancel ext ext_laws z z ext.zero (sym (constant-sum base.zero base.zero) ∙ ap constant (base_laws.zero_sum base.zero) ∙ sym (sum_zero ext ext_laws z))

    pub constant-pair : (ws es : List B) → length es ≡ length ws → constant (pair base ws es) ≡ pair ext (map constant ws) (map embed es)
    constant-pair [] es long = ap constant (pair-nil base base_laws es) ∙ constant-zero ∙ sym (pair-nil ext ext_laws (map embed es))
    constant-pair (w ∷ ws) [] long = absurd (omega arith)
    constant-pair (w ∷ ws) (e ∷ es) long =
        ap constant (pair-cons base base_laws w e ws es)
        ∙ constant-sum (base.product w e) (pair base ws es)
        ∙ (λ i. ext.sum (constant-product w e i) (constant-pair ws es (omega (arith, long)) i))
        ∙ sym (pair-cons ext ext_laws (constant w) (embed e) (map constant ws) (map embed es))
