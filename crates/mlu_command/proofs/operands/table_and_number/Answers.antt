use Rattle.std.proofs.Common.{◌∙◌}
use Rattle.mlu_ring.proofs.PowersOfTwo.{is_power_of_two-power}
use Rattle.mlu_command.specs.Words.{IsTextOf}
use Rattle.mlu_command.proofs.Counts.{fault-of-None, outcome-length, outcome-memory, not-IsTable, IsTable-counted, not-HasVariable, HasVariable-counted}
use Rattle.mlu_command.proofs.operands.table_and_number.Goals as goal

pub returns-in_err-variables : goal.returns-in_err-variables
returns-in_err-variables c =
    let e = rw c.in_ok-entries.ensures.ok_part at c.count.ensures in
    let x = rw c.in_ok-number.ensures.ok_part at c.number.ensures in
    let none = rw c.in_err-variables.ensures.ok_part at c.variables.ensures in
    outcome-length _ _ _ _ c.from_residual-in_err-variables.result _ c.from_residual-in_err-variables.ensures.1
    (fault-of-None _ _ _ c.in_err-variables.ensures.value c.in_err-variables.ensures.ok_part)
    (e.0, c.in_ok-number.number)
    (e.1, x)
    (not-IsTable _ _ e c.in_ok-number.number none)

pub returns-then-variables-eq0 : goal.returns-then-variables-eq0
returns-then-variables-eq0 c =
    let e = rw c.in_ok-entries.ensures.ok_part at c.count.ensures in
    let x = rw c.in_ok-number.ensures.ok_part at c.number.ensures in
    let power = rw c.in_ok-variables.ensures.ok_part at c.variables.ensures in
    ((e.0, c.in_ok-number.number), (e.1, x), IsTable-counted _ _ _ e c.in_ok-number.number power, not-HasVariable _ _ _ e c.in_ok-number.number power c.if-variables-eq0.true)

pub returns-in_err-table : goal.returns-in_err-table
returns-in_err-table c =
    let e = rw c.in_ok-entries.ensures.ok_part at c.count.ensures in
    let x = rw c.in_ok-number.ensures.ok_part at c.number.ensures in
    let power = rw c.in_ok-variables.ensures.ok_part at c.variables.ensures in
    outcome-memory _ _ _ _ c.from_residual-in_err-table.result c.from_residual-in_err-table.ensures.1
    (e.0, c.in_ok-number.number)
    (e.1, x)
    (IsTable-counted _ _ _ e c.in_ok-number.number power)
    (HasVariable-counted _ _ _ e c.in_ok-number.number power c.if-variables-eq0.false)

pub new-requires : goal.new-requires
new-requires c =
    let power = rw c.in_ok-variables.ensures.ok_part at c.variables.ensures in
    is_power_of_two-power _ _ (c.in_ok-table.ensures.size ∙ power)

pub returns : goal.returns
returns c =
    let x = rw c.in_ok-number.ensures.ok_part at c.number.ensures in
    let power = rw c.in_ok-variables.ensures.ok_part at c.variables.ensures in
    let e : IsTextOf c.in_ok-entries.entries c.args.table.now = (c.in_ok-table.table.items, c.in_ok-table.ensures.text, c.in_ok-table.ensures.size) in (
      (e.0, c.in_ok-number.number),
      (e.1, x),
      IsTable-counted _ _ _ e c.in_ok-number.number power,
      HasVariable-counted _ _ _ e c.in_ok-number.number power c.if-variables-eq0.false,
      cc (c.new.ensures),
    )
