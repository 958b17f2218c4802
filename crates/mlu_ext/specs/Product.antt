-- D copies of a ring, with componentwise operations.
use lib.Pointwise.{pointwise}
use Rattle.std.specs.Prelude.{◌≡◌, ◌↔◌, IsTrue, Bool, ℕ, List}
use Rattle.std.proofs.Common.{ap, refl}
use Rattle.mlu_ring.specs.Ring.{Ring, RingLaws, IsRingMap}
use Rattle.mlu_ring.specs.Lanes.{IsLists}
use Rattle.mlu_lanes.specs.LaneRing.{values_of, same_values, splat, zipped, mapped, packed_of, lanes_are_lists, lane_ring, lane_laws, eq_lanes, splat_is_ring_map}
use Rattle.mlu_lanes.specs.Entrywise.{EntrywisePair, EntrywiseTriple, zipped_by, mapped_by}
use Rattle.mlu_lanes.specs.declared.lanes.Lanes.{Lanes}
use Rattle.mlu_ext.specs.declared.product.ProductAlgebra.{ProductAlgebra}

-- the entries in order
abbrev pub entries_of : {A : Type 0} {D : ℕ} → ProductAlgebra A D → List A
entries_of a = values_of a.copies

module _ {A : Type 0} (D : ℕ) where
  abbrev pub product_of : Lanes A D → ProductAlgebra A D
  product_of p = record { copies = p }

  pub same_entries : (a b : ProductAlgebra A D) → entries_of a ≡ entries_of b → a ≡ b
  same_entries a b e = ap product_of (same_values D a.copies b.copies e)

  -- x in every entry
  abbrev pub diagonal : A → ProductAlgebra A D
  diagonal x = product_of (splat D x)

  -- the entries are those of the list; where it is too short, d stands in the others
  abbrev pub product_from : A → List A → ProductAlgebra A D
  product_from d xs = product_of (packed_of D d xs)

  pub entries_are_lists : (d : A) → IsLists D entries_of (product_from d)
  entries_are_lists d = record {
    length-parts = λ a. a.copies.full;
    whole-parts = λ a. ap product_of ((lanes_are_lists D d).whole-parts a.copies);
    parts-whole = (lanes_are_lists D d).parts-whole;
  }

  -- where a relation of the entries is a function, that of the products is this function entry by entry
  pub entries_zipped_by : (P : A → A → A → Type 0) (f : A → A → A) → ((x y z : A) → P x y z → z ≡ f x y) → A → (a b r : ProductAlgebra A D)
      → EntrywiseTriple D P (entries_of a) (entries_of b) (entries_of r) → r ≡ product_of (zipped D f a.copies b.copies)
  entries_zipped_by P f gives d a b r h = ap product_of (zipped_by D P f gives d a.copies b.copies r.copies h)

  pub entries_mapped_by : (P : A → A → Type 0) (f : A → A) → ((x z : A) → P x z → z ≡ f x) → A → (a r : ProductAlgebra A D)
      → EntrywisePair D P (entries_of a) (entries_of r) → r ≡ product_of (mapped D f a.copies)
  entries_mapped_by P f gives d a r h = ap product_of (mapped_by D P f gives d a.copies r.copies h)

  -- where the test of two elements decides their equality, so does the test of two entry by entry
  pub eq_product : (E : A → A → Bool) → ((x y : A) → IsTrue (E x y) ↔ (x ≡ y)) → (a b : ProductAlgebra A D)
      → IsTrue (pointwise E (entries_of a) (entries_of b)) ↔ (a ≡ b)
  eq_product E decides a b =
      let both = eq_lanes D E decides a.copies b.copies in
      (λ h. ap product_of (both.0 h), λ e. both.1 (ap (λ (x : ProductAlgebra A D). x.copies) e))

-- the operations of a ring, entry by entry
abbrev pub product_ring : {A : Type 0} (D : ℕ) → Ring A → Ring (ProductAlgebra A D)
product_ring D ring =
    let lanes = lane_ring D ring in
    record {
      zero = diagonal D ring.zero;
      one = diagonal D ring.one;
      sum = λ a b. product_of D (lanes.sum a.copies b.copies);
      minus = λ a b. product_of D (lanes.minus a.copies b.copies);
      negation = λ a. product_of D (lanes.negation a.copies);
      product = λ a b. product_of D (lanes.product a.copies b.copies);
    }

pub product_laws : {A : Type 0} (D : ℕ) (ring : Ring A) → RingLaws ring → RingLaws (product_ring D ring)
product_laws D ring laws =
    let lanes = lane_laws D ring laws in
    record {
      sum_assoc = λ a b c. ap (product_of D) (lanes.sum_assoc a.copies b.copies c.copies);
      sum_comm = λ a b. ap (product_of D) (lanes.sum_comm a.copies b.copies);
      zero_sum = λ a. ap (product_of D) (lanes.zero_sum a.copies);
      negation_sum = λ a. ap (product_of D) (lanes.negation_sum a.copies);
      minus_is = λ a b. ap (product_of D) (lanes.minus_is a.copies b.copies);
      product_assoc = λ a b c. ap (product_of D) (lanes.product_assoc a.copies b.copies c.copies);
      product_comm = λ a b. ap (product_of D) (lanes.product_comm a.copies b.copies);
      one_product = λ a. ap (product_of D) (lanes.one_product a.copies);
      product_sum = λ a b c. ap (product_of D) (lanes.product_sum a.copies b.copies c.copies);
    }

-- an element stands for its copies
pub diagonal_is_ring_map : {A : Type 0} (D : ℕ) (ring : Ring A) → IsRingMap ring (product_ring D ring) (diagonal D)
diagonal_is_ring_map D ring =
    let splats = splat_is_ring_map D ring in
    record {
      zero = refl;
      one = refl;
      sum = λ a b. ap (product_of D) (splats.sum a b);
      product = λ a b. ap (product_of D) (splats.product a b);
    }
