use Rattle.std.proofs.Common.{◌≡◌, take, string_bytes}
use Rattle.mlu_command.specs.Words.{lines_of}
use Rattle.mlu_command.proofs.words.lines.Given as goal

abbrev pub invariant-loop-x : goal.invariant-loop-x
invariant-loop-x l = string_bytes l.text ≡ lines_of (take l.x-index l.elements)
