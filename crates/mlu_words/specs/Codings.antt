-- Elements as words: so many least residues each, one after the other.
use Rattle.std.specs.Prelude.{◌≡◌, ◌<◌, ◌/◌, ℕ, List, map, flat_map, length}
use Rattle.std.specs.List.{All, range_with_len}
use Rattle.mlu_ring.specs.Matrices.{row_at}
use Rattle.mlu_lanes.specs.declared.baby_bear.TheConstants.{MODULUS}

-- how the elements of a type stand in words
pub record Coding (T : Type 0) : Type 0 where
  pub width : ℕ
  pub words : T → List ℕ
  pub element : List ℕ → T

-- each word is a least residue
abbrev pub AreResidues : List ℕ → Type 0
AreResidues ws = All (λ w. w < MODULUS) ws

-- each element has one word or more, and so many residues are the words of one element
pub record IsCoding {T : Type 0} (coding : Coding T) : Type 0 where
  pub some : 0 < coding.width
  pub length-words : (x : T) → length (coding.words x) ≡ coding.width
  pub element-words : (x : T) → coding.element (coding.words x) ≡ x
  pub words-element : (ws : List ℕ) → length ws ≡ coding.width → AreResidues ws → coding.words (coding.element ws) ≡ ws

-- how many elements so many words are
abbrev pub element_count : {T : Type 0} → Coding T → List ℕ → ℕ
element_count coding ws = length ws / coding.width

-- the elements that the words stand for
abbrev pub elements_of : {T : Type 0} → Coding T → List ℕ → List T
elements_of coding ws = map (λ j. coding.element (row_at coding.width ws j)) (range_with_len 0 (element_count coding ws))

-- the words of the elements
abbrev pub words_of : {T : Type 0} → Coding T → List T → List ℕ
words_of coding xs = flat_map coding.words xs
