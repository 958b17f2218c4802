use Rattle.std.proofs.Common.{◌≡◌, ◌+◌, ◌*◌, ◌/◌, ◌%◌, take, map, length}
use Rattle.mlu_ring.specs.Tables.{pair}
use Rattle.mlu_kernel.proofs.basis_dot.packed_basis_dot.Given as goal

abbrev pub invariant-loop-k : goal.invariant-loop-k
invariant-loop-k g l = record {
  long : length l.sums ≡ g.row.D;
  sums : take l.k l.sums ≡ map (λ c. pair g.F.Packing.Additive.ring c.now l.rhs) (take l.k l.cs);
  groups : g.M.Meter.groups l.meter ≡ g.M.Meter.groups l.fn.meter + l.k * (length l.rhs / 4);
  made : g.M.Meter.made l.meter ≡ g.M.Meter.made l.fn.meter + l.k * (length l.rhs % 4 * g.F.Packing.PackedValue.WIDTH);
}
