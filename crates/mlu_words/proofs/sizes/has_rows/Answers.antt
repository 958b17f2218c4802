use Rattle.std.proofs.Common.{◌≡◌, ◌*◌, ◌^◌, ◌≤◌, arith}
use Rattle.std.proofs.Math.Nat.{mul-le-mul_right, mul_comm}
use Rattle.std.proofs.Math.Pow.{pow_mono}
use Rattle.mlu_words.proofs.sizes.has_rows.Goals as goal

pub returns-else-width-eq0 : goal.returns-else-width-eq0
returns-else-width-eq0 c =
    let v = c.args.variables in
    let w = c.args.width in
    let large : 2 ^ 64 ≤ 2 ^ v = pow_mono {i = 64} {j = v} c.if-variables.true in
    let some : 1 ≤ w = omega arith in
    let never : c.args.entries ≡ 2 ^ v * w → ⊥ = λ e. omega (arith, e, large, mul_comm (2 ^ v) w, mul-le-mul_right (2 ^ v) some) in
    grind (arith, never)
