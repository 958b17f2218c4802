use Rattle.std.proofs.Common.{◌≡◌, ◌-◌, length, drop}
use Rattle.mlu_ring.specs.Tables.{weight}
use Rattle.mlu_point.proofs.point.table.weight_at.Given as goal

abbrev pub invariant-loop-k : goal.invariant-loop-k
invariant-loop-k g l = l.weight ≡ weight g.R.Additive.ring (drop (length l.coords - l.k) l.coords) l.vertex
