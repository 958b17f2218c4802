use Rattle.mlu_eq.proofs.Lines.{line_of_images}
use Rattle.mlu_eq.proofs.line.interpolate_base.Goals as goal

pub returns : goal.returns
returns g c =
    let subtracted = g.met.F.Additive.subtracts c.args.high c.args.low c.sub.result c.sub.ensures in
    line_of_images g.F.Additive.ring g.met.F.Additive.laws g.EF.Additive.ring g.met.EF.Additive.laws g.EF.Algebra.embed g.met.EF.Algebra.keeps
    c.args.low c.args.high c.sub.result c.args.r c.scale.result c.plus.result subtracted c.scale.ensures c.plus.ensures
