-- Where each rule sends an index.
use Rattle.std.proofs.Common.{ℕ, ◌<◌, ◌∙◌, ◌%◌, ap, arith}
use Rattle.std.proofs.Math.Nat.{mod-eq_of_lt, mod_self}
use Rattle.mlu_ring.proofs.Successor.{IsStep, successor-step}
use Rattle.mlu_point.specs.declared.point.rule.Successor.{Successor}
use Rattle.mlu_point.specs.declared.point.rule.Successor.TheVariants.{RepeatLast, Wrap}
use Rattle.mlu_point.specs.Rules.{successor_by, after_last}

pub rule-step : (rule : Successor) (n : ℕ) → 0 < n → IsStep n (after_last rule n) (successor_by rule n)
rule-step RepeatLast n some = successor-step n some
rule-step Wrap n some = record { more = λ x h. mod-eq_of_lt (omega (arith, h)); last = ap (λ k. k % n) (omega (arith, some)) ∙ mod_self n; inside = some }
