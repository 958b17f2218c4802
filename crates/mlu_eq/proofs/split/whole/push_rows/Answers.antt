use Rattle.std.proofs.Common.{length}
use Rattle.mlu_eq.proofs.Appended.{no_rows_appended, row_appended}
use Rattle.mlu_eq.proofs.split.whole.push_rows.Goals as goal

pub loop-factor-init : goal.loop-factor-init
loop-factor-init g c = no_rows_appended g.R.Additive.ring c.args.table.now c.args.table.now c.args.eq0.now c.args.weights.now (length c.args.weights.now)

pub loop-factor-preserved : goal.loop-factor-preserved
loop-factor-preserved g c =
    row_appended g.R.Additive.ring c.args.table.now c.loop-factor.table c.args.eq0.now c.args.weights.now (length c.args.weights.now)
    c.push_row.new.table c.loop-factor.factor-index c.factor-item.result c.loop-factor-test.true c.factor-item.is c.loop-factor.invariant c.push_row.ensures
