-- The rings of the calls, and how their elements stand in words.
use Rattle.std.specs.Prelude.{ℕ, [], ◌∷◌, map, slice_index_or}
use Rattle.mlu_ring.specs.Ring.{Ring}
use Rattle.mlu_lanes.specs.declared.baby_bear.BabyBear.{BabyBear}
use Rattle.mlu_lanes.specs.BabyBear.{canonical, reduced, baby_bear_ring}
use Rattle.mlu_ext.specs.declared.quartic.QuarticExtension.{QuarticExtension}
use Rattle.mlu_ext.specs.Quartic.{quartic, quartic_coefficients, quartic_ring, constant}
use Rattle.mlu_words.specs.Codings.{Coding}

-- the integers modulo 2013265921, at eight lanes
abbrev pub Base : Type 0
Base = BabyBear 8

-- the polynomials over them modulo X^4 - 11
abbrev pub Quartic : Type 0
Quartic = QuarticExtension Base

-- an integer modulo 2013265921 as its least residue
abbrev pub residue : (W : ℕ) → Coding (BabyBear W)
residue W = record {
  width = 1;
  words = λ x. canonical x ∷ [];
  element = λ ws. reduced (slice_index_or ws 0 0);
}

-- a polynomial modulo X^4 - 11 as the residues of its coefficients of 1, X, X^2, X^3
abbrev pub coefficients : (W : ℕ) → Coding (QuarticExtension (BabyBear W))
coefficients W = record {
  width = 4;
  words = λ x. map canonical (quartic_coefficients x);
  element = λ ws. quartic (reduced (slice_index_or ws 0 0)) (reduced (slice_index_or ws 1 0)) (reduced (slice_index_or ws 2 0)) (reduced (slice_index_or ws 3 0));
}

-- the ring of the quartic extension
abbrev pub extension : Ring Quartic
extension = quartic_ring (baby_bear_ring 8)

-- the constant polynomial
abbrev pub embedded : Base → Quartic
embedded x = constant (baby_bear_ring 8).zero x
