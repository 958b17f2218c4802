use Rattle.std.proofs.Common.{refl}
use Rattle.mlu_ring.proofs.PowersOfTwo.{is_power_of_two-power}
use Rattle.mlu_element_tests.proofs.without_rings.logarithms.logarithms.Goals as goal

pub log2_strict_usize-requires : goal.log2_strict_usize-requires
log2_strict_usize-requires g c = is_power_of_two-power 1 0 refl

pub log2_strict_usize-requires-2 : goal.log2_strict_usize-requires-2
log2_strict_usize-requires-2 g c = is_power_of_two-power 1024 10 refl
