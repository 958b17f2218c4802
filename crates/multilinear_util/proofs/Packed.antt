-- Lists of packed values, and the lanes that they stand for.
use Rattle.std.proofs.Common.{◌≡◌, ℕ, ◌+◌, ◌*◌, ◌%◌, ◌^◌, ◌<◌, ◌≤◌, List, length, sym, ap, ◌∙◌, subst, pow-add}
use Rattle.std.specs.Prelude.{IsTrue}
use Rattle.std.specs.Int.{is_power_of_two}
use Rattle.mlu_ring.specs.Lanes.{logical}
use Rattle.mlu_ring.proofs.Logical.{length-logical}
use Rattle.mlu_ring.proofs.PowersOfTwo.{exponent_fits}
use Rattle.mlu_eq.proofs.Lengths.{length_of_lanes, power_of_lanes}
use Rattle.multilinear_util.proofs.Lengths.{power-mod-width, power_of_size}

module _ {P V : Type 0} (lanes : P → List V) (n : ℕ) where
  -- as many lanes as the packed values have
  pub length-packed : ((p : P) → length (lanes p) ≡ n) → (ps : List P) (vs : List V) → logical lanes ps ≡ vs → length ps * n ≡ length vs
  length-packed long ps vs is = sym (length-logical lanes n long ps) ∙ ap length is

-- the exponent of a packing's number of lanes is below the bits of a word
pub exponent_of_width : (w l : ℕ) → w ≡ 2 ^ l → w < 2 ^ 64 → l < 64
exponent_of_width w l width fits = exponent_fits l (subst (λ m. m < 2 ^ 64) width fits)

-- where the packed values are a power of two, so are their lanes
pub power_of_logical : {P V : Type 0} (lanes : P → List V) (w l : ℕ) → ((p : P) → length (lanes p) ≡ w) → w ≡ 2 ^ l → (ps : List P) → length ps < 2 ^ 64 → IsTrue (is_power_of_two (length ps)) → IsTrue (is_power_of_two (length (logical lanes ps)))
power_of_logical lanes w l long width ps fits test = power_of_lanes (length ps) w l (length (logical lanes ps)) fits test width (length-logical lanes w long ps)

-- a table with room for a packing is a whole number of packings
pub ruleset whole_groups = (power-mod-width)

-- as many values in a view of the unpacked lanes as the packed values have
pub size_of_unpacked : {P V : Type 0} (lanes : P → List V) (w n : ℕ) (ps : List P) (es vs : List V) → vs ≡ es → es ≡ logical lanes ps → length ps * w ≡ n → ((p : P) → length (lanes p) ≡ w) → length vs ≡ n
size_of_unpacked lanes w n ps es vs view is count long = ap length (view ∙ is) ∙ length-logical lanes w long ps ∙ count

-- the number of variables of packed values, and of their lanes
pub ruleset variables_of_lanes = (power_of_size, length_of_lanes, exponent_of_width, pow-add)
