-- The words of a case: what is read of them, and what is left.
use Rattle.std.specs.Prelude.{◌≡◌, ◌≢◌, ℕ, ◌<◌, ◌^◌, Bool, List, length, nat_lt, slice_index, ◌==◌, if◌then◌else◌, decimal, MatchResult}
use Rattle.std.specs.Prelude.{None, Some}
use Rattle.std.specs.Option.{option_map}
use Rattle.std.specs.List.{after_first, position_or_len}
use Rattle.std.specs.declared.option.Option.{Option}
use Rattle.std.specs.declared.result.Result.{Result}
use Rattle.std.specs.declared.result.Result.TheVariants.{Err}
use Rattle.mlu_replay_lines.specs.Counts.{first_word}
use Rattle.mlu_replay_lines.specs.declared.fault.Reason.{Reason}
use Rattle.mlu_replay_lines.specs.declared.fault.Reason.TheVariants.{Missing, Number, Choice}
use Rattle.mlu_replay_calls.specs.declared.words.Words.{Words}

-- the bytes after the first space, if there is one
abbrev pub other_words : List ℕ → Option (List ℕ)
other_words text = if nat_lt (position_or_len (λ byte. byte == 32) text) (length text) then Some (after_first (λ byte. byte == 32) text) else None

-- what is left to read: none after the last word
abbrev pub words_left : Words → Option (List ℕ)
words_left words = option_map (λ text. text.now) words.rest

-- the next word is taken, and P holds of it and of what it gives; it is missing after the last
abbrev pub Takes : {X : Type 0} → Option (List ℕ) → Option (List ℕ) → Result X Reason → (List ℕ → Result X Reason → Type 0) → Type 0
Takes None new result P = (new ≡ None) × (result ≡ Err Missing)
Takes (Some text) new result P = (new ≡ other_words text) × P (first_word text) result

-- the same where there is a word
abbrev pub IsTaken : Option (List ℕ) → Option (List ℕ) → (List ℕ → Type 0) → Type 0
IsTaken None new P = ⊥
IsTaken (Some text) new P = (new ≡ other_words text) × P (first_word text)

-- no plus sign in front, nor a zero before other digits
abbrev pub HasPlainStart : List ℕ → Type 0
HasPlainStart word = (slice_index word 0 ≢ 43) × (slice_index word 0 ≡ 48 → length word ≡ 1)

-- the word is the decimal of no number below 2^64
abbrev pub IsNoDecimal : List ℕ → Type 0
IsNoDecimal word = (n : ℕ) → n < 2 ^ 64 → decimal n ≢ word

-- the number of which the word is the decimal
abbrev pub IsNumber : List ℕ → Result ℕ Reason → Type 0
IsNumber word result = MatchResult result (λ n. decimal n ≡ word) (λ reason. (reason ≡ Number) × IsNoDecimal word)

-- which of two words it is: true for the first
abbrev pub IsChoice : List ℕ → List ℕ → List ℕ → Result Bool Reason → Type 0
IsChoice first second word result = MatchResult result (λ is_first. word ≡ (if is_first then first else second)) (λ reason. (reason ≡ Choice) × (word ≢ first) × (word ≢ second))
