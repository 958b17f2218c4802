use Rattle.std.proofs.Common.{length, ap, ◌∙◌}
use Rattle.mlu_eq.proofs.Runs.{run-slice, length-run}
use Rattle.mlu_eq.proofs.split.runs.rows_of_run.Goals as goal

pub returns-clause-exact : goal.returns-clause-exact
returns-clause-exact g c = λ n is. run-slice c.args.values.now c.args.rows c.args.start c.args.run n c.requires.some c.requires.within is

pub returns-clause-size : goal.returns-clause-size
returns-clause-size g c = λ n is.
    ap length (run-slice c.args.values.now c.args.rows c.args.start c.args.run n c.requires.some c.requires.within is)
    ∙ length-run c.args.values.now c.args.rows c.args.start c.args.run n c.requires.within is
