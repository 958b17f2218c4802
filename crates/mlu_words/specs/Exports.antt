-- The calls over the integers modulo 2013265921 and their extension of degree four.
use Rattle.std.specs.Prelude.{ℕ, ⊤, Bool, List, Result}
use Rattle.mlu_ring.specs.Ring.{Ring}
use Rattle.mlu_words.specs.declared.fault.Fault.{Fault}
use Rattle.mlu_words.specs.Calls.{Batches, Compresses, Evaluates, Folds, Proves, Tabulates, Verifies}
use Rattle.mlu_words.specs.declared.calls.Call.{Call}
use Rattle.mlu_words.specs.Named.{Gives}
use Rattle.mlu_words.specs.Rings.{Base, Quartic, residue, coefficients, extension, embedded}

-- an element of a table over the base field and of a point of the extension
abbrev pub EvaluatesBase : (Ring Quartic → (Base → Quartic) → List Base → List Quartic → Quartic) → List ℕ → List ℕ → List ℕ → List ℕ → Result ⊤ Fault → Type 0
EvaluatesBase element = Evaluates (residue 8) (coefficients 8) (element extension embedded)

-- an element of a table over the extension and of a point
abbrev pub EvaluatesExtension : (Ring Quartic → List Quartic → List Quartic → Quartic) → List ℕ → List ℕ → List ℕ → List ℕ → Result ⊤ Fault → Type 0
EvaluatesExtension element = Evaluates (coefficients 8) (coefficients 8) (element extension)

-- a table over the extension of a point and of a scale
abbrev pub TabulatesExtension : (Ring Quartic → List Quartic → Quartic → List Quartic) → List ℕ → List ℕ → List ℕ → List ℕ → Result ⊤ Fault → Type 0
TabulatesExtension table = Tabulates (coefficients 8) (table extension)

-- a table over the extension with one of its variables at an element
abbrev pub FoldsExtension : (Ring Quartic → Quartic → List Quartic → List Quartic) → List ℕ → List ℕ → List ℕ → Result ⊤ Fault → Type 0
FoldsExtension fold = Folds (coefficients 8) (fold extension)

-- a table over the base field with some of its variables at a point of the extension, times a scale
abbrev pub CompressesBase : (Ring Quartic → (Base → Quartic) → List Base → List Quartic → Quartic → List Quartic) → List ℕ → List ℕ → List ℕ → List ℕ → List ℕ → Result ⊤ Fault → Type 0
CompressesBase compressed = Compresses (residue 8) (coefficients 8) (compressed extension embedded)

-- the batch of points of the extension, written to the output or added to it
abbrev pub BatchesExtension : Bool → List ℕ → List ℕ → List ℕ → List ℕ → Result ⊤ Fault → Type 0
BatchesExtension = Batches (coefficients 8) extension

-- the rounds of sumcheck and the claims, over the extension
abbrev pub ProvesExtension : List ℕ → List ℕ → List ℕ → List ℕ → List ℕ → List ℕ → List ℕ → Result ⊤ Fault → Type 0
ProvesExtension = Proves (coefficients 8) extension

-- whether rounds of three elements of the extension each fit a claim at the challenges
abbrev pub VerifiesExtension : List ℕ → List ℕ → List ℕ → List ℕ → List ℕ → Result Bool Fault → Type 0
VerifiesExtension = Verifies (coefficients 8) extension

-- a call that writes one output, by its name
abbrev pub GivesExtension : Call → List ℕ → List ℕ → List ℕ → List ℕ → List ℕ → Result ⊤ Fault → Type 0
GivesExtension = Gives (residue 8) (coefficients 8) extension embedded
