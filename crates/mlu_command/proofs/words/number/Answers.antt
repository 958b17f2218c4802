use Rattle.std.proofs.Common.{◌<◌, ap, ◌∙◌, arith, refl}
use Rattle.std.proofs.lemmas.Bool.{false≢true}
use Rattle.std.proofs.Math.Nat.{mod-eq_of_lt}
use Rattle.std.specs.Fmt.{decimal}
use Rattle.mlu_lanes.specs.BabyBear.{canonical_below}
use Rattle.mlu_command.proofs.Decimals.{decimal_of-HasPlainStart, decimal-parsed, canonical-parsed, none-parsed}
use Rattle.mlu_command.proofs.words.number.Goals as goal

pub returns-then-not-has_plain_start : goal.returns-then-not-has_plain_start
returns-then-not-has_plain_start c = λ x e. false≢true (c.if-not-has_plain_start.ensures.1 (decimal_of-HasPlainStart x c.args.word.now e))

pub returns-in-Ok : goal.returns-in-Ok
returns-in-Ok c =
    let plain = c.if-not-has_plain_start.ensures.0 refl in
    let fits : c.in-Ok.value < 2013265921 = omega arith in
    ap decimal (c.from_u32.ensures ∙ mod-eq_of_lt fits) ∙ decimal-parsed c.args.word.now c.parse.result c.parse.ensures.value.0 plain c.in-Ok.value c.in-Ok.is

pub returns-in_default : goal.returns-in_default
returns-in_default c = λ x e.
    let plain = c.if-not-has_plain_start.ensures.0 refl in
    omega (arith, canonical-parsed c.args.word.now c.parse.result c.parse.ensures.value.0 plain c.in-Ok.value c.in-Ok.is x e, canonical_below x)

pub returns-in_default-2 : goal.returns-in_default-2
returns-in_default-2 c = none-parsed c.args.word.now c.parse.result c.parse.ensures.value.0 (c.if-not-has_plain_start.ensures.0 refl) _ c.in_default.is
