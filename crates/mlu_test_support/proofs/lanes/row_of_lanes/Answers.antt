use Rattle.mlu_test_support.proofs.lanes.row_of_lanes.Goals as goal

pub returns : goal.returns
returns g c = c.row_of.ensures.size g.F.Packing.PackedValue.WIDTH c.requires.rows
