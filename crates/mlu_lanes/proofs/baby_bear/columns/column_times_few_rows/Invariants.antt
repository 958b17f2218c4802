-- Below i the halves have the sums of the products.
use Rattle.std.proofs.Common.{◌*◌, take}
use Rattle.mlu_ring.specs.Columns.{column_of}
use Rattle.mlu_lanes.specs.BabyBear.{reduced}
use Rattle.mlu_lanes.proofs.HalvedSums.{AreHalves}
use Rattle.mlu_lanes.proofs.baby_bear.columns.column_times_few_rows.Given as goal

abbrev pub invariant-loop-g : goal.invariant-loop-g
invariant-loop-g g l =
    AreHalves (4 * l.g) l.lows l.highs
    (take (4 * l.g) (column_of (reduced 0) g.E.Coefficients.list l.l l.a)) (column_of (reduced 0) g.E.Coefficients.list l.r)

abbrev pub invariant-loop-i : goal.invariant-loop-i
invariant-loop-i g l =
    AreHalves l.i l.lows l.highs
    (take l.i (column_of (reduced 0) g.E.Coefficients.list l.l l.a)) (column_of (reduced 0) g.E.Coefficients.list l.r)
