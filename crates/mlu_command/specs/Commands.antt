-- The commands, and what the program answers to them.
use Rattle.std.specs.Prelude.{◌≡◌, ◌≢◌, ℕ, ◌⊎◌, List, [], ◌∷◌, ◌++◌, flat_map, codes, replicate, Vec, Result, Err}
use Rattle.std.specs.declared.alloc.Global.{Global}
use Rattle.mlu_command.specs.declared.fault.Fault.{Fault}
use Rattle.mlu_command.specs.declared.fault.Fault.TheVariants.{Usage}
use Rattle.mlu_command.specs.Elements.{Element, elements}
use Rattle.mlu_command.specs.Operands.{IsText, AreTexts, AreTextAndDecimal, AreThreeTexts, IsTable, IsTableOfPoints, IsPointOf, ArePointsOf, HasVariable, IsShort, StandsAlone}
use Rattle.mlu_command.specs.Outcomes.{IsOutcome}
use Rattle.mlu_command.specs.Words.{line_of, lines_of}
use Rattle.mlu_ring.specs.Successor.{next}
use Rattle.mlu_ring.specs.Tables.{value, pair, weights, lsb, line, front, back}
use Rattle.mlu_sumcheck.specs.Rounds.{rounds_of, product_of_values}

-- what is asked for, with the words of its operands
pub data Command : Type 0 where
  Eval : List ℕ → List ℕ → Command
  Next : List ℕ → List ℕ → Command
  Msb : List ℕ → Command
  Lsb : List ℕ → Command
  FoldFirst : List ℕ → List ℕ → Command
  FoldLast : List ℕ → List ℕ → Command
  Routes : List ℕ → List ℕ → Command
  Sumcheck : List ℕ → List ℕ → List ℕ → Command

-- the words that ask for it
abbrev pub words_of : Command → List (List ℕ)
words_of (Eval table point) = codes "eval" ∷ table ∷ point ∷ []
words_of (Next table point) = codes "next" ∷ table ∷ point ∷ []
words_of (Msb point) = codes "msb" ∷ point ∷ []
words_of (Lsb point) = codes "lsb" ∷ point ∷ []
words_of (FoldFirst table number) = codes "fold-first" ∷ table ∷ number ∷ []
words_of (FoldLast table number) = codes "fold-last" ∷ table ∷ number ∷ []
words_of (Routes table point) = codes "routes" ∷ table ∷ point ∷ []
words_of (Sumcheck table point challenges) = codes "sumcheck" ∷ table ∷ point ∷ challenges ∷ []

-- the bytes are the line of the list that stands for the operands
abbrev pub Prints : {X : Type 0} → (X → List Element) → X → Vec ℕ Global → Type 0
Prints list x bytes = bytes.items ≡ line_of (list x)

-- the bytes are that line for each of the four routes
abbrev pub PrintsFour : {X : Type 0} → (X → Element) → X → Vec ℕ Global → Type 0
PrintsFour element x bytes = bytes.items ≡ lines_of (replicate 4 (element x))

-- the last claim of sumcheck: the product of the values at the challenges, of the weights at the point and of the table
abbrev pub last_claim : List Element → List Element → List Element → Element
last_claim e p challenges = product_of_values elements (weights elements p) e challenges

-- the bytes are a line for each round of the table and the point's weights, and one for the last claim
abbrev pub PrintsProof : List Element × List Element × List Element → Vec ℕ Global → Type 0
PrintsProof x bytes = bytes.items ≡ flat_map line_of (rounds_of elements (weights elements x.1) x.0 x.2) ++ line_of (last_claim x.0 x.1 x.2 ∷ [])

-- what the command comes to
abbrev pub Answers : Command → Result (Vec ℕ Global) Fault → Type 0
Answers (Eval table point) = IsOutcome (AreTexts table point) IsTable IsPointOf (Prints (λ x. value elements x.0 x.1 ∷ []))
Answers (Next table point) = IsOutcome (AreTexts table point) IsTable IsPointOf (Prints (λ x. pair elements (next elements (weights elements x.1)) x.0 ∷ []))
Answers (Msb point) = IsOutcome (IsText point) IsShort StandsAlone (Prints (weights elements))
Answers (Lsb point) = IsOutcome (IsText point) IsShort StandsAlone (Prints (lsb elements))
Answers (FoldFirst table number) = IsOutcome (AreTextAndDecimal table number) IsTable HasVariable (Prints (λ x. front elements (line elements x.1) x.0))
Answers (FoldLast table number) = IsOutcome (AreTextAndDecimal table number) IsTable HasVariable (Prints (λ x. back elements (line elements x.1) x.0))
Answers (Routes table point) = IsOutcome (AreTexts table point) IsTable IsPointOf (PrintsFour (λ x. value elements x.0 x.1))
Answers (Sumcheck table point challenges) = IsOutcome (AreThreeTexts table point challenges) IsTableOfPoints ArePointsOf PrintsProof

-- the answer to the words: that of the command that they ask for, or the fault that they ask for none
abbrev pub AnswersWords : List (List ℕ) → Result (Vec ℕ Global) Fault → Type 0
AnswersWords words result =
    ((command : Command) × (words_of command ≡ words) × Answers command result)
    ⊎ (((command : Command) → words_of command ≢ words) × (result ≡ Err Usage))
