use Rattle.std.proofs.Common.{arith}
use Rattle.mlu_ring.proofs.Values.{value-empty}
use Rattle.mlu_eq.proofs.Evaluations.{value-two, value-halves}
use Rattle.mlu_eq.proofs.evaluation.+eval_ext.Goals as goal

pub returns-in-empty : goal.returns-in-empty
returns-in-empty g t c =
    value-empty g.R.Additive.ring g.met.R.Additive.laws c.args.entries.now c.args.point.now c.index-entries-0.result (omega arith) c.requires c.index-entries-0.is

pub returns-in-len1 : goal.returns-in-len1
returns-in-len1 g t c =
    value-two g.R.Additive.ring g.met.R.Additive.laws c.args.entries.now c.args.point.now c.last-item.result c.index-entries-0-in-len1.result c.index-entries-1.result c.interpolate.result
    (omega arith) c.requires c.last-item.is c.index-entries-0-in-len1.is c.index-entries-1.is c.interpolate.ensures

pub returns-in-len1-up : goal.returns-in-len1-up
returns-in-len1-up g t c =
    let split = c.split_at.ensures in
    value-halves g.R.Additive.ring g.met.R.Additive.laws c.args.entries.now c.args.point.now c.split_at.result.0.now c.split_at.result.1.now
    c.first-item.result c.eval_ext.result c.eval_ext-in-len1-up.result c.interpolate-in-len1-up.result
    (omega arith) c.requires c.first-item.is split.front split.back c.eval_ext.ensures c.eval_ext-in-len1-up.ensures c.interpolate-in-len1-up.ensures
