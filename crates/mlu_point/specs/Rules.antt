-- The successor of an index by a rule, and the table whose weights it has moved.
use Rattle.std.specs.Prelude.{ℕ, ◌+◌, ◌-◌, ◌%◌, List, length}
use Rattle.mlu_ring.specs.Ring.{Ring}
use Rattle.mlu_ring.specs.Successor.{successor, pushed}
use Rattle.mlu_point.specs.declared.point.rule.Successor.{Successor}
use Rattle.mlu_point.specs.declared.point.rule.Successor.TheVariants.{RepeatLast, Wrap}

-- the next of n indexes: the last is its own, or is followed by the first
abbrev pub successor_by : Successor → ℕ → ℕ → ℕ
successor_by RepeatLast n x = successor n x
successor_by Wrap n x = (x + 1) % n

-- entry y is the sum of the entries of w at the indexes whose successor by the rule is y
abbrev pub next_by : {R : Type 0} → Successor → Ring R → List R → List R
next_by rule ring w = pushed ring (successor_by rule (length w)) w

-- the successor of the last of n indexes, of which there is one or more
abbrev pub after_last : Successor → ℕ → ℕ
after_last RepeatLast n = n - 1
after_last Wrap n = 0
