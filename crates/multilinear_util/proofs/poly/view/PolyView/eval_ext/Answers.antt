use Rattle.std.proofs.Common.{◌∙◌}
use Rattle.multilinear_util.specs.Split.{split_entries}
use Rattle.multilinear_util.specs.Views.{entries}
use Rattle.multilinear_util.proofs.Splits.{pair-unit}
use Rattle.multilinear_util.proofs.poly.view.PolyView.eval_ext.Goals as goal

pub returns-clause-value : goal.returns-clause-value
returns-clause-value g c =
    c.eval_ext-2.ensures
    ∙ pair-unit g.F.Additive.ring g.met.F.Additive.laws c.ONE.result c.args.point.now (split_entries g.F.Additive.ring c.in_ok-split.split) (entries c.args.self.now)
    (c.ONE.ensures ∙ g.met.F.Additive.one_is) c.in_ok-split.ensures.value
