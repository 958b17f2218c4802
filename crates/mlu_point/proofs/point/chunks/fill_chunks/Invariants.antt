use Rattle.std.proofs.Common.{◌≡◌, ◌+◌, ◌-◌, ◌*◌, ◌^◌, ◌++◌, length, take, drop}
use Rattle.mlu_point.specs.Orders.{weights_by, scaled_by_each}
use Rattle.mlu_point.proofs.point.chunks.fill_chunks.Given as goal

abbrev pub invariant-loop-i : goal.invariant-loop-i
invariant-loop-i g l =
    let ring = g.F.Additive.ring in
    record {
      written : l.out ≡ scaled_by_each ring (weights_by l.fn.order ring l.fn.low) (take l.i l.fn.seeds) ++ drop (l.i * 2 ^ length l.fn.low) l.initial.out;
      made : g.M.Meter.made l.meter ≡ g.M.Meter.made l.initial.meter + l.i * (2 ^ length l.fn.low - 1);
      groups : g.M.Meter.groups l.meter ≡ g.M.Meter.groups l.initial.meter;
    }
