use Rattle.std.proofs.Common.{ap, ◌∙◌}
use Rattle.mlu_eq.proofs.Lines.{line_of_images}
use Rattle.mlu_eq.proofs.line.interpolate_base_at_fixed.Goals as goal

pub returns : goal.returns
returns g c =
    let ring = g.EF.Additive.ring in
    let laws = g.met.EF.Additive.laws in
    let subtracted = g.met.F.Additive.subtracts c.args.high c.args.low c.sub.result c.sub.ensures in
    let multiplied = c.times_fixed.ensures ∙ laws.product_comm c.from_base-2.result c.args.r ∙ ap (ring.product c.args.r) c.from_base-2.ensures in
    let added = g.met.EF.Additive.adds c.from_base.result c.times_fixed.result c.add.result c.add.ensures in
    let embedded = ap (λ low. ring.sum low c.times_fixed.result) c.from_base.ensures in
    let swapped = laws.sum_comm (g.EF.Algebra.embed c.args.low) c.times_fixed.result in
    line_of_images g.F.Additive.ring g.met.F.Additive.laws ring laws g.EF.Algebra.embed g.met.EF.Algebra.keeps
    c.args.low c.args.high c.sub.result c.args.r c.times_fixed.result c.add.result subtracted multiplied (added ∙ embedded ∙ swapped)
