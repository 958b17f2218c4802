use Rattle.std.proofs.Common.{rules, arith}
use Rattle.mlu_replay_calls.proofs.Parsing.{decimal-above}
use Rattle.mlu_replay_calls.proofs.element.BabyBearElement.read.Goals as goal

pub returns-then-value-from : goal.returns-then-value-from
returns-then-value-from g c = decimal-above c.args.word.now c.in_ok-value.value (search rules) c.in_ok-value.ensures (omega arith)
