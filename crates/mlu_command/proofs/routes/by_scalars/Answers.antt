use Rattle.std.proofs.Common.{◌∙◌, map, ap}
use Rattle.multilinear_util.specs.Split.{split_entries}
use Rattle.mlu_ring.specs.Tables.{pair}
use Rattle.multilinear_util.proofs.Splits.{pair-unit}
use Rattle.mlu_command.proofs.routes.by_scalars.Goals as goal

pub returns : goal.returns
returns g c =
    let ring = g.R.Additive.ring in
    let whole = split_entries ring c.in_ok-split.split in
    c.eval_base.ensures
    ∙ ap (λ e. pair ring whole (map g.R.Algebra.embed e)) c.as_view-view.ensures
    ∙ pair-unit ring g.met.R.Additive.laws c.ONE.result c.args.point.now whole (map g.R.Algebra.embed c.args.table.now)
    (c.ONE.ensures ∙ g.met.R.Additive.one_is) c.in_ok-split.ensures.value
