use Rattle.mlu_sweep.proofs.kernels.loaded.Goals as goal

pub load-requires : goal.load-requires
load-requires g c = c.row_of.ensures.size g.F.Packing.PackedValue.WIDTH c.requires
