use Rattle.std.proofs.Common.{◌≡◌, ◌*◌, length, take}
use Rattle.mlu_ring.specs.Lanes.{logical}
use Rattle.mlu_kernel.proofs.basis_split.load_row.Given as goal

abbrev pub invariant-loop-i : goal.invariant-loop-i
invariant-loop-i g l = record {
  long : length l.blocks ≡ length l.initial.blocks;
  lanes : logical g.F.Packing.PackedValue.lanes (take l.i l.blocks) ≡ take (l.i * g.F.Packing.PackedValue.WIDTH) l.row;
}
