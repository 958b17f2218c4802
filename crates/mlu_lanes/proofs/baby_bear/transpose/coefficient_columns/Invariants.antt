-- Below the place that is next the columns are filled.
use Rattle.std.proofs.Common.{◌≡◌, ◌*◌, length}
use Rattle.mlu_ring.proofs.Filled.{IsFilled}
use Rattle.mlu_lanes.specs.BabyBear.{reduced}
use Rattle.mlu_ring.specs.Columns.{column_of}
use Rattle.mlu_lanes.proofs.baby_bear.transpose.coefficient_columns.Given as goal

abbrev pub invariant-loop-g : goal.invariant-loop-g
invariant-loop-g g l =
    let column = column_of (reduced 0) g.E.Coefficients.list l.elements in
    record {
      long_first : length l.first ≡ g.row.W;
      long_second : length l.second ≡ g.row.W;
      long_third : length l.third ≡ g.row.W;
      long_fourth : length l.fourth ≡ g.row.W;
      first : IsFilled (reduced 0) l.first (column 0) (4 * l.g);
      second : IsFilled (reduced 0) l.second (column 1) (4 * l.g);
      third : IsFilled (reduced 0) l.third (column 2) (4 * l.g);
      fourth : IsFilled (reduced 0) l.fourth (column 3) (4 * l.g);
    }

abbrev pub invariant-loop-k : goal.invariant-loop-k
invariant-loop-k g l =
    let column = column_of (reduced 0) g.E.Coefficients.list l.elements in
    record {
      long_first : length l.first ≡ g.row.W;
      long_second : length l.second ≡ g.row.W;
      long_third : length l.third ≡ g.row.W;
      long_fourth : length l.fourth ≡ g.row.W;
      first : IsFilled (reduced 0) l.first (column 0) l.k;
      second : IsFilled (reduced 0) l.second (column 1) l.k;
      third : IsFilled (reduced 0) l.third (column 2) l.k;
      fourth : IsFilled (reduced 0) l.fourth (column 3) l.k;
    }
