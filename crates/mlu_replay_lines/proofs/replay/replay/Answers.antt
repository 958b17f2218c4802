use Rattle.std.proofs.Common.{◌≡◌, ◌+◌, IfSome, sym, ap, ◌∙◌, subst}
use Rattle.std.specs.Io.BufRead.{first_piece}
use Rattle.mlu_replay_lines.specs.Counts.{disagreeing}
use Rattle.mlu_replay_lines.proofs.Lines.{HasRead-line, Grows-on}
use Rattle.mlu_replay_lines.proofs.replay.replay.Goals as goal

pub loop-lines-preserved : goal.loop-lines-preserved
loop-lines-preserved g c =
    let remaining = g.R.Read.remaining in
    let contents = g.W.Write.contents in
    let line = subst (λ l. IfSome (g.R.Read.remaining c.loop-lines.input) (λ bytes. l ≡ first_piece 10 bytes)) (sym c.deref.ensures.value) c.in_ok-next_line.ensures.line in
    record {
      count = c.in_ok-replay_line.ensures.one ∙ ap (λ n. n + 1) c.loop-lines.invariant.count;
      within = c.in_ok-replay_line.ensures.within;
      read =
          HasRead-line g.A.Answers.gives (remaining c.args.input.now) (remaining c.loop-lines.input) (remaining c.next_line.new.input) c.deref.result.now
          c.loop-lines.lines (disagreeing c.loop-lines.tally) (disagreeing c.replay_line.new.tally) c.loop-lines.invariant.read
          c.in_ok-next_line.ensures.rest (c.in_ok-next_line.ensures.more c.if-not-branch.false) line
          c.in_ok-replay_line.ensures.more c.in_ok-replay_line.ensures.agrees;
      grows = Grows-on (contents c.args.out.now) (contents c.loop-lines.out) (contents c.replay_line.new.out) c.loop-lines.invariant.grows c.in_ok-replay_line.ensures.grows;
    }
