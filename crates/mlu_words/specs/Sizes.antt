-- The sizes that operands may have, in words.
use Rattle.std.specs.Prelude.{◌≡◌, ℕ, List, length}
use Rattle.std.specs.Int.{IsPowerOfTwo}
use Rattle.mlu_ring.specs.Matrices.{AreRows}
use Rattle.mlu_words.specs.Codings.{Coding, element_count}

-- the words of whole elements
abbrev pub AreWhole : {T : Type 0} → Coding T → List ℕ → Type 0
AreWhole coding ws = AreRows (length ws) coding.width

-- the words of one element
abbrev pub IsOne : {T : Type 0} → Coding T → List ℕ → Type 0
IsOne coding ws = length ws ≡ coding.width

-- the words of a power of two of elements
abbrev pub IsTable : {T : Type 0} → Coding T → List ℕ → Type 0
IsTable coding ws = AreWhole coding ws × IsPowerOfTwo (element_count coding ws)
