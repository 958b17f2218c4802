-- The codings of the two rings.
use Rattle.std.specs.Prelude.{◌≡◌, ◌<◌, ◌%◌, ℕ, List, [], ◌∷◌, length}
use Rattle.std.proofs.Common.{refl, ap, arith, lit<}
use Rattle.std.proofs.Math.Nat.{mod-eq_of_lt}
use Rattle.mlu_lanes.specs.BabyBear.{canonical_are_residues}
use Rattle.mlu_lanes.specs.Residues.{residue-value}
use Rattle.mlu_lanes.specs.declared.baby_bear.TheConstants.{MODULUS}
use Rattle.mlu_ext.specs.QuarticLaws.{quartic_same}
use Rattle.mlu_words.specs.Codings.{IsCoding, AreResidues}
use Rattle.mlu_words.specs.Rings.{residue, coefficients}

reduced-word : (w : ℕ) → w < MODULUS → w % MODULUS ≡ w
reduced-word w h = mod-eq_of_lt h

one-word : (W : ℕ) (ws : List ℕ) → length ws ≡ 1 → AreResidues ws → (residue W).words ((residue W).element ws) ≡ ws
one-word W [] size all = absurd (omega arith)
one-word W (w ∷ []) size all = ap (λ x. x ∷ []) (reduced-word w (all 0 0 (lit< tt)))
one-word W (w ∷ (v ∷ ws)) size all = absurd (omega arith)

four-words : (W : ℕ) (ws : List ℕ) → length ws ≡ 4 → AreResidues ws → (coefficients W).words ((coefficients W).element ws) ≡ ws
four-words W [] size all = absurd (omega arith)
four-words W (a ∷ []) size all = absurd (omega arith)
four-words W (a ∷ (b ∷ [])) size all = absurd (omega arith)
four-words W (a ∷ (b ∷ (c ∷ []))) size all = absurd (omega arith)
four-words W (a ∷ (b ∷ (c ∷ (d ∷ [])))) size all = rw (reduced-word a (all 0 0 (lit< tt)), reduced-word b (all 1 0 (lit< tt)), reduced-word c (all 2 0 (lit< tt)), reduced-word d (all 3 0 (lit< tt))) refl
four-words W (a ∷ (b ∷ (c ∷ (d ∷ (e ∷ ws))))) size all = absurd (omega arith)

pub residue_is_coding : (W : ℕ) → IsCoding (residue W)
residue_is_coding W = record {
  some = lit< tt;
  length-words = λ x. refl;
  element-words = residue-value canonical_are_residues;
  words-element = one-word W;
}

pub coefficients_is_coding : (W : ℕ) → IsCoding (coefficients W)
coefficients_is_coding W = record {
  some = lit< tt;
  length-words = λ x. refl;
  element-words = λ x. quartic_same (residue-value canonical_are_residues x.c0) (residue-value canonical_are_residues x.c1) (residue-value canonical_are_residues x.c2) (residue-value canonical_are_residues x.c3);
  words-element = four-words W;
}
