use Rattle.std.proofs.Common.{◌∙◌, map}
use Rattle.multilinear_util.specs.Split.{split_entries}
use Rattle.multilinear_util.specs.Views.{entries}
use Rattle.multilinear_util.proofs.Splits.{pair-unit}
use Rattle.multilinear_util.proofs.poly.view.PolyView.eval_base.Goals as goal

pub returns-clause-value : goal.returns-clause-value
returns-clause-value g c =
    c.eval_base-2.ensures
    ∙ pair-unit g.EF.Additive.ring g.met.EF.Additive.laws g.EF.Additive.ONE c.args.point.now (split_entries g.EF.Additive.ring c.in_ok-split.split) (map g.EF.Algebra.embed (entries c.args.self.now))
    g.met.EF.Additive.one_is c.in_ok-split.ensures.value
