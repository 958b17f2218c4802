use Rattle.std.proofs.Common.{◌≡◌, ◌+◌, ◌*◌, ◌++◌, map, take, drop}
use Rattle.mlu_point.proofs.point.metered.split_groups.Given as goal

abbrev pub invariant-loop-i : goal.invariant-loop-i
invariant-loop-i g l =
    let ring = g.F.Additive.ring in
    let done = l.i * g.F.Packing.PackedValue.WIDTH in
    record {
      upper : l.high ≡ map (λ w. ring.product w l.fn.coordinate) (take done l.initial.low) ++ drop done l.initial.high;
      lower : l.low ≡ map (λ w. ring.minus w (ring.product w l.fn.coordinate)) (take done l.initial.low) ++ drop done l.initial.low;
      made : g.M.Meter.made l.meter ≡ g.M.Meter.made l.initial.meter + done;
      groups : g.M.Meter.groups l.meter ≡ g.M.Meter.groups l.initial.meter;
    }
