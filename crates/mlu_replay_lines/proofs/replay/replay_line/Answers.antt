use Rattle.std.proofs.Common.{rules}
use Rattle.mlu_replay_lines.proofs.Lines.{TellsDiffering-written}
use Rattle.mlu_replay_lines.proofs.replay.replay_line.Goals as goal

pub returns-else-eq-clause-differs : goal.returns-else-eq-clause-differs
returns-else-eq-clause-differs g c = TellsDiffering-written _ c.report_differing.result g.A.Answers.gives c.args.number c.args.line.now c.in-Ok.case.asked.now c.in-Ok.case.given.now c.as_str-answer.result.now (g.W.Write.contents c.args.out.now) (g.W.Write.contents c.report_differing.new.out) c.in-Ok.ensures.case (search rules) (search rules) c.report_differing.ensures.line
