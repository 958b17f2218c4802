-- Below k the lanes are filled with the coefficients.
use Rattle.std.proofs.Common.{◌≡◌, length}
use Rattle.mlu_ring.specs.Columns.{column_of}
use Rattle.mlu_ring.proofs.Filled.{IsFilled}
use Rattle.mlu_ext.proofs.coefficients.column.Given as goal

abbrev pub invariant-loop-k : goal.invariant-loop-k
invariant-loop-k g l =
    let zero = g.R.Additive.ring.zero in
    record { long : length l.lanes ≡ g.row.W; filled : IsFilled zero l.lanes (column_of zero g.E.Coefficients.list l.elements l.c) l.k }
