use Rattle.std.proofs.Common.{◌≡◌, ◌∷◌, map, take, string_bytes}
use Rattle.std.specs.List.{join_with_byte}
use Rattle.std.specs.Fmt.{decimal}
use Rattle.mlu_command.specs.Words.{decimal_of}
use Rattle.mlu_command.proofs.words.line.Given as goal

abbrev pub invariant-loop-x : goal.invariant-loop-x
invariant-loop-x l = string_bytes l.text ≡ join_with_byte 44 (decimal l.value ∷ map decimal_of (take l.x-index l.rest))
