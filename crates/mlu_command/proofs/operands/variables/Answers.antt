use Rattle.std.proofs.Common.{IsTrue}
use Rattle.std.proofs.lemmas.Bool.{false≢true}
use Rattle.std.specs.Int.{is_power_of_two}
use Rattle.mlu_ring.proofs.PowersOfTwo.{is_power_of_two-power}
use Rattle.mlu_command.proofs.operands.variables.Goals as goal

pub returns-else-is_power_of_two : goal.returns-else-is_power_of_two
returns-else-is_power_of_two c = λ p.
    let yes : IsTrue (is_power_of_two c.args.entries) = is_power_of_two-power c.args.entries p.0 p.1 in
    false≢true (rw (← c.if-is_power_of_two.ensures) at yes)
