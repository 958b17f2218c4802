use Rattle.std.proofs.Common.{length}
use Rattle.mlu_eq.proofs.suffix.+fold_suffix_in_place.Given as goal

abbrev pub decreases-fold_suffix_in_place : goal.decreases-fold_suffix_in_place
decreases-fold_suffix_in_place g l = length l.entries.now
