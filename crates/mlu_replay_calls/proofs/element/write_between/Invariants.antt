use Rattle.std.proofs.Common.{◌+◌, take, string_bytes}
use Rattle.mlu_replay_calls.specs.Elements.{IsWrittenBetween}
use Rattle.mlu_replay_calls.proofs.element.write_between.Given as goal

abbrev pub invariant-loop-x : goal.invariant-loop-x
invariant-loop-x g l = IsWrittenBetween g.T.Element.stands l.separator (string_bytes l.fn.text) (string_bytes l.text) (take (l.x-index + 1) l.list)
