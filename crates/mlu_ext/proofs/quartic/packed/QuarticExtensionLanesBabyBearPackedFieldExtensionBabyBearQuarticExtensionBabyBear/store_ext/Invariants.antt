-- Below the lane that is next the elements are written.
use Rattle.std.proofs.Common.{◌*◌}
use Rattle.mlu_lanes.specs.BabyBear.{baby_bear_ring}
use Rattle.mlu_ext.specs.Quartic.{constant}
use Rattle.mlu_ext.specs.QuarticPacked.{quartic_elements}
use Rattle.mlu_ring.proofs.Filled.{IsFilled}
use Rattle.mlu_ext.proofs.quartic.packed.QuarticExtensionLanesBabyBearPackedFieldExtensionBabyBearQuarticExtensionBabyBear.store_ext.Given as goal

abbrev pub invariant-loop-g : goal.invariant-loop-g
invariant-loop-g g l =
    let zero = (baby_bear_ring g.row.W).zero in
    IsFilled (constant zero zero) l.out (quartic_elements g.row.W zero l.self) (4 * l.g)

abbrev pub invariant-loop-k : goal.invariant-loop-k
invariant-loop-k g l =
    let zero = (baby_bear_ring g.row.W).zero in
    IsFilled (constant zero zero) l.out (quartic_elements g.row.W zero l.self) l.k
