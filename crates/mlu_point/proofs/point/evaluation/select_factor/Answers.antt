use Rattle.std.proofs.Common.{◌∙◌}
use Rattle.mlu_point.proofs.point.evaluation.select_factor.Goals as goal

pub returns : goal.returns
returns g c =
    let less = g.met.F.Additive.subtracts c.args.power c.ONE.result c.sub.result c.sub.ensures in
    let unit = c.ONE.ensures ∙ g.met.F.Additive.one_is in
    let one = c.ONE-2.ensures ∙ g.met.EF.Additive.one_is in
    let added = g.met.EF.Additive.adds c.scale.result c.ONE-2.result c.add.result c.add.ensures in
    cc (less, unit, one, added, c.scale.ensures)
