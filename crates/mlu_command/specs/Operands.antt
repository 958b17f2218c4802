-- The operands of the commands: the words that stand for them, and their sizes.
use Rattle.std.specs.Prelude.{◌≡◌, ℕ, ◌^◌, ◌<◌, List, length, ⊤}
use Rattle.std.specs.Int.{IsPowerOfTwo}
use Rattle.mlu_command.specs.Elements.{Element}
use Rattle.mlu_command.specs.Words.{text, decimal_of}

-- the word is the text of the list
abbrev pub IsText : List ℕ → List Element → Type 0
IsText word xs = text xs ≡ word

-- the words are the texts of a table and of a point
abbrev pub AreTexts : List ℕ → List ℕ → List Element × List Element → Type 0
AreTexts table point x = (text x.0 ≡ table) × (text x.1 ≡ point)

-- the words are the text of a table and the decimal of a number
abbrev pub AreTextAndDecimal : List ℕ → List ℕ → List Element × Element → Type 0
AreTextAndDecimal table number x = (text x.0 ≡ table) × (decimal_of x.1 ≡ number)

-- the words are the texts of a table and of two points
abbrev pub AreThreeTexts : List ℕ → List ℕ → List ℕ → List Element × List Element × List Element → Type 0
AreThreeTexts table first second x = (text x.0 ≡ table) × (text x.1 ≡ first) × (text x.2 ≡ second)

-- the table has a power of two of entries
abbrev pub IsTable : {X : Type 0} → List Element × X → Type 0
IsTable x = IsPowerOfTwo (length x.0)

-- the same of a table beside two points
abbrev pub IsTableOfPoints : List Element × List Element × List Element → Type 0
IsTableOfPoints x = IsPowerOfTwo (length x.0)

-- the point has as many coordinates as the table has variables
abbrev pub IsPointOf : List Element × List Element → Type 0
IsPointOf x = length x.0 ≡ 2 ^ length x.1

-- both points have as many coordinates as the table has variables
abbrev pub ArePointsOf : List Element × List Element × List Element → Type 0
ArePointsOf x = (length x.0 ≡ 2 ^ length x.1) × (length x.0 ≡ 2 ^ length x.2)

-- the table has a variable
abbrev pub HasVariable : {X : Type 0} → List Element × X → Type 0
HasVariable x = 1 < length x.0

-- the point has fewer coordinates than a word has bits
abbrev pub IsShort : List Element → Type 0
IsShort point = length point < 64

-- a lone operand has none to fit
abbrev pub StandsAlone : List Element → Type 0
StandsAlone xs = ⊤
