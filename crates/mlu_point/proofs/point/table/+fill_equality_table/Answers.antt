use Rattle.mlu_point.proofs.Tables.{table-doubled, table-scale}
use Rattle.mlu_point.proofs.point.table.+fill_equality_table.Goals as goal

pub returns-in-None : goal.returns-in-None
returns-in-None g t c =
    table-scale g.R.Additive.ring g.met.R.Additive.laws c.args.order c.args.scale c.args.out.now c.args.coords.now c.in-None.ensures.split c.requires

pub returns-in-Some : goal.returns-in-Some
returns-in-Some g t c =
    rw (c.split_by_coordinate.ensures.upper, c.split_by_coordinate.ensures.lower)
    (table-doubled g.R.Additive.ring g.met.R.Additive.laws c.args.order c.args.scale c.in-Some.coordinate.now c.in-Some.others.now c.fill_equality_table.new.out c.args.coords.now
    c.in-Some.ensures.split c.fill_equality_table.ensures)
