use Rattle.std.proofs.Common.{◌≡◌, length, take}
use Rattle.mlu_eq.specs.Split.{constants}
use Rattle.mlu_eq.proofs.split.constants.read_constants.Given as goal

abbrev pub invariant-loop-i : goal.invariant-loop-i
invariant-loop-i g l = record {
  long : length l.column ≡ length l.weights;
  read : constants g.EF.ExtensionField.of_coefficients (take l.i l.column) ≡ take l.i l.weights;
}
