use Rattle.mlu_ring.proofs.Rings.{line_by_step}
use Rattle.mlu_eq.proofs.line.interpolate_at_base.Goals as goal

pub returns : goal.returns
returns g c =
    let ring = g.F.Additive.ring in
    let laws = g.met.F.Additive.laws in
    let r = g.F.Algebra.embed c.args.r in
    let subtracted = g.met.F.Additive.subtracts c.args.high c.args.low c.sub.result c.sub.ensures in
    let added = g.met.F.Additive.adds c.args.low c.scale.result c.add.result c.add.ensures in
    let swapped = laws.product_comm (ring.minus c.args.high c.args.low) r in
    let step = line_by_step ring laws c.args.low c.args.high r in
    cc (subtracted, added, c.scale.ensures, swapped, step)
