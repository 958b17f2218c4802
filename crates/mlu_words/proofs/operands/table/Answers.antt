use Rattle.std.proofs.Common.{◌∙◌}
use Rattle.mlu_ring.proofs.PowersOfTwo.{is_power_of_two-power}
use Rattle.mlu_words.proofs.operands.table.Goals as goal

pub new-requires : goal.new-requires
new-requires g c = is_power_of_two-power _ c.requires.1.0 (c.in_ok-read.ensures.size ∙ c.requires.1.1)
