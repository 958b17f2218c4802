use Rattle.std.proofs.Common.{◌≡◌, vec_len}
use Rattle.mlu_sweep.proofs.kernels.loaded.Given as goal

abbrev pub invariant-loop-i : goal.invariant-loop-i
invariant-loop-i g l = vec_len l.packed ≡ l.i
