use Rattle.mlu_point.proofs.Tables.{table-doubled, table-scale}
use Rattle.mlu_point.proofs.point.metered.+fill_by_meter.Goals as goal

pub returns-in-None-clause-table : goal.returns-in-None-clause-table
returns-in-None-clause-table g t c = table-scale g.F.Additive.ring g.met.F.Additive.laws c.args.order c.args.scale c.args.out.now c.args.coords.now c.in-None.ensures.split c.requires

pub returns-in-Some-clause-table : goal.returns-in-Some-clause-table
returns-in-Some-clause-table g t c =
    rw (c.split_by_meter.ensures.upper, c.split_by_meter.ensures.lower)
    (table-doubled g.F.Additive.ring g.met.F.Additive.laws c.args.order c.args.scale c.in-Some.coordinate.now c.in-Some.others.now c.fill_by_meter.new.out c.args.coords.now c.in-Some.ensures.split c.fill_by_meter.ensures.table)
