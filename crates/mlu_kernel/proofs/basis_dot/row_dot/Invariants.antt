use Rattle.std.proofs.Common.{◌≡◌, ◌+◌, ◌-◌, ◌*◌, ◌/◌, take, length}
use Rattle.mlu_ring.specs.Tables.{pair}
use Rattle.mlu_kernel.proofs.basis_dot.row_dot.Given as goal

abbrev pub invariant-loop-g : goal.invariant-loop-g
invariant-loop-g g l = record {
  sum : l.sum ≡ pair g.F.Packing.Additive.ring (take (4 * l.g) l.l) l.r;
  groups : g.M.Meter.groups l.meter ≡ g.M.Meter.groups l.fn.meter + l.g;
  made : g.M.Meter.made l.meter ≡ g.M.Meter.made l.fn.meter;
}

abbrev pub invariant-loop-i : goal.invariant-loop-i
invariant-loop-i g l = record {
  sum : l.sum ≡ pair g.F.Packing.Additive.ring (take l.i l.l) l.r;
  groups : g.M.Meter.groups l.meter ≡ g.M.Meter.groups l.fn.meter + length l.r / 4;
  made : g.M.Meter.made l.meter ≡ g.M.Meter.made l.fn.meter + (l.i - 4 * l.groups) * g.F.Packing.PackedValue.WIDTH;
}
