-- How many cases there are, and what the program says of all of them.
use Rattle.std.specs.Prelude.{◌≡◌, ◌≢◌, ℕ, ◌+◌, ◌<◌, List, [], ◌∷◌, ◌++◌, length, ◌==◌, if◌then◌else◌, ◌⊎◌, ⊤, None, IfSome, IsUtf8, codes, decimal}
use Rattle.mlu_replay_lines.specs.Faults.{reason_text}
use Rattle.std.specs.List.{before_first}
use Rattle.mlu_replay_lines.specs.declared.fault.Reason.{Reason}
use Rattle.mlu_replay_lines.specs.declared.fault.Reason.TheVariants.{Text, Equals}
use Rattle.mlu_replay_lines.specs.declared.replay.Case.{Case}
use Rattle.mlu_replay_lines.specs.declared.replay.Tally.{Tally}
use Rattle.mlu_replay_lines.specs.declared.stop.Stop.{Stop}
use Rattle.mlu_replay_lines.specs.declared.stop.Stop.TheVariants.{Read, Memory, Write}
use Rattle.std.specs.Str.Pattern.{FindsText, LacksTextAt}
use Rattle.std.specs.Io.KnownBytes.{Appends}
use Rattle.std.specs.declared.option.Option.{Option}

-- the byte in front of the first line, or as the only one
abbrev pub with_byte : ℕ → List (List ℕ) → List (List ℕ)
with_byte byte [] = (byte ∷ []) ∷ []
with_byte byte (line ∷ later) = (byte ∷ line) ∷ later

-- the lines without their line feeds; bytes after the last line feed are one too
abbrev pub lines_of : List ℕ → List (List ℕ)
lines_of [] = []
lines_of (byte ∷ rest) = if byte == 10 then [] ∷ lines_of rest else with_byte byte (lines_of rest)

-- a case: what is asked, up to the first equals sign between spaces, and behind that what is given
abbrev pub IsCase : List ℕ → List ℕ → List ℕ → Type 0
IsCase line asked given = (line ≡ asked ++ (codes " = " ++ given)) × ((i : ℕ) → i < length asked → LacksTextAt (codes " = ") line i)

-- a case that gives one of the answers to what it asks
abbrev pub Agrees : (List ℕ → List ℕ → Type 0) → List ℕ → Type 0
Agrees gives line = (asked given : List ℕ) × IsCase line asked given × gives asked given

-- each of the lines is such a case
abbrev pub AllAgree : (List ℕ → List ℕ → Type 0) → List (List ℕ) → Type 0
AllAgree gives [] = ⊤
AllAgree gives (line ∷ later) = Agrees gives line × AllAgree gives later

-- where the bytes are known, each of their lines is such a case
abbrev pub LinesAgree : (List ℕ → List ℕ → Type 0) → Option (List ℕ) → Type 0
LinesAgree gives known = IfSome known (λ bytes. AllAgree gives (lines_of bytes))

-- known bytes stay at the front
abbrev pub Grows : Option (List ℕ) → Option (List ℕ) → Type 0
Grows old new = (bytes : List ℕ) × Appends old new bytes

-- known bytes grow by some that end so
abbrev pub GrowsTo : Option (List ℕ) → Option (List ℕ) → List ℕ → Type 0
GrowsTo old new end = (bytes : List ℕ) × Appends old new (bytes ++ end)

-- the line for a case that differs
abbrev pub differ_line : ℕ → List ℕ → List ℕ → List ℕ → List ℕ
differ_line number op given answer =
    codes "line " ++ (decimal number ++ (codes ": " ++ (op ++ (codes " differs: given " ++ (given ++ (codes ", answered " ++ (answer ++ codes "\n")))))))

-- the line for one that is no case
abbrev pub unknown_line : ℕ → List ℕ → List ℕ
unknown_line number reason = codes "line " ++ (decimal number ++ (codes ": unknown: " ++ (reason ++ codes "\n")))

-- the bytes before the first space, or all
abbrev pub first_word : List ℕ → List ℕ
first_word text = before_first (λ byte. byte == 32) text

-- the line for this case, where it differs
abbrev pub case_line : ℕ → Case → List ℕ → List ℕ
case_line number case answer = differ_line number (first_word case.asked.now) case.given.now answer

-- where the bytes are known, as many lines are counted as they have
abbrev pub CountsLines : Tally → Option (List ℕ) → Type 0
CountsLines tally known = IfSome known (λ bytes. tally.compared + tally.unknown ≡ length (lines_of bytes))

-- the lines that are no case, or one whose answers differ
abbrev pub disagreeing : Tally → ℕ
disagreeing tally = tally.differ + tally.unknown

-- the number of cases that differ has changed
abbrev pub MoreDiffer : Tally → Tally → Type 0
MoreDiffer old new = new.differ ≢ old.differ

-- the number of lines that are no case has changed
abbrev pub MoreUnknown : Tally → Tally → Type 0
MoreUnknown old new = new.unknown ≢ old.unknown

-- the line is written for a case that gives another answer than the one that is told
abbrev pub TellsDiffering : (List ℕ → List ℕ → Type 0) → ℕ → List ℕ → Option (List ℕ) → Option (List ℕ) → Type 0
TellsDiffering gives number line old new =
    (asked given answer : List ℕ) × IsCase line asked given × gives asked answer × (given ≢ answer) × Appends old new (differ_line number (first_word asked) given answer)

-- the line is written for one that is no case, with some reason
abbrev pub TellsUnknown : ℕ → Option (List ℕ) → Option (List ℕ) → Type 0
TellsUnknown number old new = (reason : Reason) × Appends old new (unknown_line number (reason_text reason))

-- why a line is no case: it is no text, or has nowhere an equals sign between spaces
abbrev pub IsNoCase : List ℕ → Reason → Type 0
IsNoCase line reason = ((reason ≡ Text) × (IsUtf8 line → ⊥)) ⊎ ((reason ≡ Equals) × FindsText (codes " = ") line None)

-- the last line
abbrev pub count_line : Tally → List ℕ
count_line tally =
    decimal tally.compared ++ (codes " compared, " ++ (decimal tally.differ ++ (codes " differ, " ++ (decimal tally.unknown ++ codes " unknown\n"))))

-- the status that the program ends with where it stops before the end
abbrev pub stop_status : Stop → ℕ
stop_status Read = 2
stop_status Memory = 3
stop_status Write = 4
