use Rattle.mlu_eq.proofs.line.add_scaled.Goals as goal

pub returns : goal.returns
returns g c =
    let ring = g.F.Additive.ring in
    let laws = g.met.F.Additive.laws in
    let added = g.met.F.Additive.adds c.args.low c.scale.result c.add.result c.add.ensures in
    let swapped = laws.product_comm c.args.high (g.F.Algebra.embed c.args.r) in
    cc (added, c.scale.ensures, swapped, laws.one_product c.args.low)
