use Rattle.std.proofs.Common.{◌∙◌}
use Rattle.mlu_ring.proofs.PowersOfTwo.{is_power_of_two-power}
use Rattle.mlu_command.proofs.Counts.{fault-of-None, outcome-length, not-IsTableOfPoints, IsTableOfPoints-counted, not-IsPointOf, points-memory}
use Rattle.mlu_command.proofs.operands.table_and_points.Goals as goal

pub returns-in_err-variables : goal.returns-in_err-variables
returns-in_err-variables c =
    let e = rw c.in_ok-entries.ensures.ok_part at c.count.ensures in
    let p = rw c.in_ok-firsts.ensures.ok_part at c.count-2.ensures in
    let q = rw c.in_ok-seconds.ensures.ok_part at c.count-3.ensures in
    let none = rw c.in_err-variables.ensures.ok_part at c.variables.ensures in
    outcome-length _ _ _ _ c.from_residual-in_err-variables.result _ c.from_residual-in_err-variables.ensures.1
    (fault-of-None _ _ _ c.in_err-variables.ensures.value c.in_err-variables.ensures.ok_part)
    (e.0, p.0, q.0)
    (e.1, p.1, q.1)
    (not-IsTableOfPoints _ _ _ _ 0 _ _ e p q none)

pub returns-then-variables-firsts : goal.returns-then-variables-firsts
returns-then-variables-firsts c =
    let e = rw c.in_ok-entries.ensures.ok_part at c.count.ensures in
    let p = rw c.in_ok-firsts.ensures.ok_part at c.count-2.ensures in
    let q = rw c.in_ok-seconds.ensures.ok_part at c.count-3.ensures in
    let power = rw c.in_ok-variables.ensures.ok_part at c.variables.ensures in (
      (e.0, p.0, q.0),
      (e.1, p.1, q.1),
      IsTableOfPoints-counted _ _ _ _ _ _ _ e p q power,
      λ both. not-IsPointOf _ _ _ _ _ e p power c.if-variables-firsts.true both.0,
    )

pub returns-then-variables-seconds : goal.returns-then-variables-seconds
returns-then-variables-seconds c =
    let e = rw c.in_ok-entries.ensures.ok_part at c.count.ensures in
    let p = rw c.in_ok-firsts.ensures.ok_part at c.count-2.ensures in
    let q = rw c.in_ok-seconds.ensures.ok_part at c.count-3.ensures in
    let power = rw c.in_ok-variables.ensures.ok_part at c.variables.ensures in (
      (e.0, p.0, q.0),
      (e.1, p.1, q.1),
      IsTableOfPoints-counted _ _ _ _ _ _ _ e p q power,
      λ both. not-IsPointOf _ _ _ _ _ e q power c.if-variables-seconds.true both.1,
    )

pub returns-in_err-table : goal.returns-in_err-table
returns-in_err-table c =
    let e = rw c.in_ok-entries.ensures.ok_part at c.count.ensures in
    let p = rw c.in_ok-firsts.ensures.ok_part at c.count-2.ensures in
    let q = rw c.in_ok-seconds.ensures.ok_part at c.count-3.ensures in
    let power = rw c.in_ok-variables.ensures.ok_part at c.variables.ensures in
    points-memory _ _ _ _ _ _ _ e p q _ c.from_residual-in_err-table.result c.from_residual-in_err-table.ensures.1 power c.if-variables-firsts.false c.if-variables-seconds.false

pub returns-in_err-first : goal.returns-in_err-first
returns-in_err-first c =
    let e = rw c.in_ok-entries.ensures.ok_part at c.count.ensures in
    let p = rw c.in_ok-firsts.ensures.ok_part at c.count-2.ensures in
    let q = rw c.in_ok-seconds.ensures.ok_part at c.count-3.ensures in
    let power = rw c.in_ok-variables.ensures.ok_part at c.variables.ensures in
    points-memory _ _ _ _ _ _ _ e p q _ c.from_residual-in_err-first.result c.from_residual-in_err-first.ensures.1 power c.if-variables-firsts.false c.if-variables-seconds.false

pub returns-in_err-second : goal.returns-in_err-second
returns-in_err-second c =
    let e = rw c.in_ok-entries.ensures.ok_part at c.count.ensures in
    let p = rw c.in_ok-firsts.ensures.ok_part at c.count-2.ensures in
    let q = rw c.in_ok-seconds.ensures.ok_part at c.count-3.ensures in
    let power = rw c.in_ok-variables.ensures.ok_part at c.variables.ensures in
    points-memory _ _ _ _ _ _ _ e p q _ c.from_residual-in_err-second.result c.from_residual-in_err-second.ensures.1 power c.if-variables-firsts.false c.if-variables-seconds.false

pub new-requires : goal.new-requires
new-requires c =
    let power = rw c.in_ok-variables.ensures.ok_part at c.variables.ensures in
    is_power_of_two-power _ _ (c.in_ok-table.ensures.size ∙ power)
