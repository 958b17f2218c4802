use Rattle.std.proofs.Common.{◌∙◌, set, ap}
use Rattle.multilinear_util.proofs.Successors.{next-turned}
use Rattle.multilinear_util.proofs.poly.tables.move_to_next.Goals as goal

pub returns : goal.returns
returns g c =
    let turn = c.rotate_right.new.self in
    let zeroed = set turn 0 c.ZERO.result in
    next-turned g.R.Additive.ring g.met.R.Additive.laws c.args.rule c.args.weights.now turn zeroed c.index-weights-0.result c.index-weights-end.result c.add.result c.after_last-end.result
    c.requires c.rotate_right.ensures.after c.index-weights-0.is (ap (set turn 0) (c.ZERO.ensures ∙ g.met.R.Additive.zero_is)) c.after_last-end.ensures.index c.index-weights-end.is
    (g.met.R.Additive.adds c.index-weights-end.result c.index-weights-0.result c.add.result c.add.ensures)
