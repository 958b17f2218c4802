-- What is written at the end, and the status that the program ends with.
use Rattle.std.specs.Prelude.{◌≡◌, ◌≢◌, ℕ, List}
use Rattle.std.specs.Io.KnownBytes.{Appends}
use Rattle.std.specs.declared.option.Option.{Option}

-- the text is appended to known bytes and the status is this one, unless it is 4: a write failed
abbrev pub Emits : List ℕ → ℕ → Option (List ℕ) → Option (List ℕ) → ℕ → Type 0
Emits text done old new status = status ≢ 4 → (status ≡ done) × Appends old new text
