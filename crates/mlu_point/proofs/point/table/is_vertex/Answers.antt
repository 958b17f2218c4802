use Rattle.std.proofs.Common.{◌≡◌, ◌/◌, ◌^◌, arith, rules}
use Rattle.std.proofs.Math.Nat.{div-eq_of_lt}
use Rattle.std.proofs.Math.Pow.{pow_mono}
use Rattle.mlu_point.proofs.Expansion.{below-power}
use Rattle.mlu_point.proofs.point.table.is_vertex.Goals as goal

pub returns-then-n : goal.returns-then-n
returns-then-n c = (λ t. omega (arith, c.ranges.vertex.fits, pow_mono {i = 64} {j = c.args.n} c.if-n.true), λ h. search rules)

pub returns-else-n : goal.returns-else-n
returns-else-n c = (
  λ t. let none : c.args.vertex / 2 ^ c.args.n ≡ 0 = search rules in below-power c.args.vertex c.args.n none,
  λ h. let none : c.args.vertex / 2 ^ c.args.n ≡ 0 = div-eq_of_lt h in rw none (search rules),
)
