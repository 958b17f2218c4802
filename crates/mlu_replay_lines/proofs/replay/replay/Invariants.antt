use Rattle.std.proofs.Common.{◌≡◌, ◌+◌, ◌≤◌}
use Rattle.mlu_replay_lines.specs.Counts.{Grows, disagreeing}
use Rattle.mlu_replay_lines.proofs.Lines.{HasRead}
use Rattle.mlu_replay_lines.proofs.replay.replay.Given as goal

abbrev pub invariant-loop-lines : goal.invariant-loop-lines
invariant-loop-lines g l = record {
  count : l.tally.compared + l.tally.unknown ≡ l.lines;
  within : l.tally.differ ≤ l.tally.compared;
  read : HasRead g.A.Answers.gives (g.R.Read.remaining l.initial.input) (g.R.Read.remaining l.input) l.lines (disagreeing l.tally);
  grows : Grows (g.W.Write.contents l.initial.out) (g.W.Write.contents l.out);
}
