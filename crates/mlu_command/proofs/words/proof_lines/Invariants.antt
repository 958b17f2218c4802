use Rattle.std.proofs.Common.{◌≡◌, flat_map}
use Rattle.mlu_command.specs.Words.{line_of}
use Rattle.mlu_command.proofs.words.proof_lines.Given as goal

abbrev pub invariant-loop-round : goal.invariant-loop-round
invariant-loop-round l = l.bytes.items ≡ flat_map line_of l.yielded
