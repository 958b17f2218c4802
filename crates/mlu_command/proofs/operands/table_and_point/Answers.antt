use Rattle.std.proofs.Common.{◌∙◌}
use Rattle.mlu_ring.proofs.PowersOfTwo.{is_power_of_two-power}
use Rattle.mlu_command.proofs.Counts.{fault-of-None, outcome-length, outcome-memory, not-IsTable, IsTable-counted, not-IsPointOf, IsPointOf-counted}
use Rattle.mlu_command.proofs.operands.table_and_point.Goals as goal

pub returns-in_err-variables : goal.returns-in_err-variables
returns-in_err-variables c =
    let e = rw c.in_ok-entries.ensures.ok_part at c.count.ensures in
    let p = rw c.in_ok-coordinates.ensures.ok_part at c.count-2.ensures in
    let none = rw c.in_err-variables.ensures.ok_part at c.variables.ensures in
    outcome-length _ _ _ _ c.from_residual-in_err-variables.result _ c.from_residual-in_err-variables.ensures.1
    (fault-of-None _ _ _ c.in_err-variables.ensures.value c.in_err-variables.ensures.ok_part)
    (e.0, p.0)
    (e.1, p.1)
    (not-IsTable _ _ e p.0 none)

pub returns-then-variables-coordinates : goal.returns-then-variables-coordinates
returns-then-variables-coordinates c =
    let e = rw c.in_ok-entries.ensures.ok_part at c.count.ensures in
    let p = rw c.in_ok-coordinates.ensures.ok_part at c.count-2.ensures in
    let power = rw c.in_ok-variables.ensures.ok_part at c.variables.ensures in
    ((e.0, p.0), (e.1, p.1), IsTable-counted _ _ _ e p.0 power, not-IsPointOf _ _ _ _ _ e p power c.if-variables-coordinates.true)

pub returns-in_err-table : goal.returns-in_err-table
returns-in_err-table c =
    let e = rw c.in_ok-entries.ensures.ok_part at c.count.ensures in
    let p = rw c.in_ok-coordinates.ensures.ok_part at c.count-2.ensures in
    let power = rw c.in_ok-variables.ensures.ok_part at c.variables.ensures in
    outcome-memory _ _ _ _ c.from_residual-in_err-table.result c.from_residual-in_err-table.ensures.1
    (e.0, p.0)
    (e.1, p.1)
    (IsTable-counted _ _ _ e p.0 power)
    (IsPointOf-counted _ _ _ _ _ e p power c.if-variables-coordinates.false)

pub returns-in_err-point : goal.returns-in_err-point
returns-in_err-point c =
    let e = rw c.in_ok-entries.ensures.ok_part at c.count.ensures in
    let p = rw c.in_ok-coordinates.ensures.ok_part at c.count-2.ensures in
    let power = rw c.in_ok-variables.ensures.ok_part at c.variables.ensures in
    outcome-memory _ _ _ _ c.from_residual-in_err-point.result c.from_residual-in_err-point.ensures.1
    (e.0, p.0)
    (e.1, p.1)
    (IsTable-counted _ _ _ e p.0 power)
    (IsPointOf-counted _ _ _ _ _ e p power c.if-variables-coordinates.false)

pub new-requires : goal.new-requires
new-requires c =
    let power = rw c.in_ok-variables.ensures.ok_part at c.variables.ensures in
    is_power_of_two-power _ _ (c.in_ok-table.ensures.size ∙ power)
