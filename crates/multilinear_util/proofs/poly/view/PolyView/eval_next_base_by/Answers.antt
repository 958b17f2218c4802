use Rattle.std.proofs.Common.{◌∙◌, map}
use Rattle.multilinear_util.specs.Split.{split_entries}
use Rattle.multilinear_util.specs.Views.{entries}
use Rattle.multilinear_util.proofs.Successors.{pair-next_unit}
use Rattle.multilinear_util.proofs.poly.view.PolyView.eval_next_base_by.Goals as goal

pub returns : goal.returns
returns g c =
    c.eval_next_base_by.ensures
    ∙ pair-next_unit g.EF.Additive.ring g.met.EF.Additive.laws c.args.rule g.EF.Additive.ONE c.args.point.now (split_entries g.EF.Additive.ring c.in_ok-split.split) (map g.EF.Algebra.embed (entries c.args.self.now))
    g.met.EF.Additive.one_is c.in_ok-split.ensures.value
