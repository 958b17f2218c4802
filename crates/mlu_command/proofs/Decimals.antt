-- What the decimals of elements look like, and what `parse` gives of words.
use Rattle.std.proofs.Common.{◌≡◌, ℕ, ◌+◌, ◌^◌, ◌<◌, ◌≤◌, ◌≢◌, List, [], ◌∷◌, length, get_or, sym, ap, ◌∙◌, ⊎_elim, arith, Ok, Err, Result}
use Rattle.std.specs.Str.Parse.{AllDigits, digits_value, ParsesUnsigned}
use Rattle.std.specs.Fmt.{decimal}
use Rattle.std.proofs.lemmas.Str.Parse.{IsNumeralModel, numerals_by_value, tells_digits, parse_plain, digit_at}
use Rattle.std.proofs.lemmas.Fmt.{digits_decimal, digits_value-decimal, decimal_nonempty, first_decimal, decimal-digits_value, decimal_injective, decimal_digit}
use Rattle.std.proofs.lemmas.Result.{OkIff-at_ok, OkIff-at_err}
use Rattle.std.proofs.lemmas.Bool.{cases_lt}
use Rattle.mlu_command.specs.Elements.{Element}
use Rattle.mlu_lanes.specs.BabyBear.{canonical, canonical_below, same_canonical}
use Rattle.mlu_command.specs.Words.{decimal_of, HasPlainStart}

numerals : IsNumeralModel (AllDigits 10) (digits_value 10)
numerals = numerals_by_value (AllDigits 10) tells_digits

canonical-fits : (x : Element) → canonical x < 2 ^ 64
canonical-fits x = omega (arith, canonical_below x)

pub decimal_of-digits : (x : Element) (w : List ℕ) → decimal_of x ≡ w → AllDigits 10 w
decimal_of-digits x w e = rw e at (digits_decimal numerals (canonical x) (canonical-fits x))

decimal_of-value : (x : Element) (w : List ℕ) → decimal_of x ≡ w → digits_value 10 w ≡ canonical x
decimal_of-value x w e = rw e at (digits_value-decimal numerals (canonical x) (canonical-fits x))

decimal_of-nonempty : (x : Element) (w : List ℕ) → decimal_of x ≡ w → 0 < length w
decimal_of-nonempty x w e = rw e at (decimal_nonempty (canonical x) (canonical-fits x))

-- its first byte is a digit
pub decimal_of-first : (x : Element) (w : List ℕ) → decimal_of x ≡ w → 48 ≤ get_or w 0 0
decimal_of-first x w e = (digit_at w 0 (decimal_of-digits x w e) (decimal_of-nonempty x w e)).0

-- only the decimal of zero begins with a zero
decimal_of-leading_zero : (x : Element) (w : List ℕ) → decimal_of x ≡ w → get_or w 0 0 ≡ 48 → length w ≡ 1
decimal_of-leading_zero x w e h =
    ⊎_elim
    (λ (positive : 0 < canonical x). absurd (omega (arith, rw e at (first_decimal (canonical x) positive (canonical-fits x)))))
    (λ (none : canonical x ≤ 0).
    let one : decimal (canonical x) ≡ (48 + canonical x) ∷ [] = decimal_digit (canonical x) (omega arith) in
    sym (ap length e) ∙ ap length one)
    (cases_lt 0 (canonical x))

pub decimal_of-HasPlainStart : (x : Element) (w : List ℕ) → decimal_of x ≡ w → HasPlainStart w
decimal_of-HasPlainStart x w e = (λ h. omega (arith, h, decimal_of-first x w e), decimal_of-leading_zero x w e)

pub decimal_of-injective : (x y : Element) → decimal_of x ≡ decimal_of y → x ≡ y
decimal_of-injective x y e = same_canonical x y (decimal_injective (canonical x) (canonical y) (canonical-fits x) (canonical-fits y) e)

-- what `parse` gives of a word with a plain start
module _ {E : Type 0} (w : List ℕ) (r : Result ℕ E) (parsed : ParsesUnsigned 32 10 w r) (plain : HasPlainStart w) where
  pub decimal-parsed : (n : ℕ) → r ≡ Ok n → decimal n ≡ w
  decimal-parsed n is =
      let parts = OkIff-at_ok r _ _ n (parse_plain numerals 32 w r parsed plain.0) is in
      ap decimal parts.1 ∙ decimal-digits_value numerals w parts.0.0 parts.0.1 (λ h. omega (arith, plain.1 h, parts.0.1)) (omega (arith, parts.0.2))

  pub canonical-parsed : (n : ℕ) → r ≡ Ok n → (x : Element) → decimal_of x ≡ w → n ≡ canonical x
  canonical-parsed n is x e = (OkIff-at_ok r _ _ n (parse_plain numerals 32 w r parsed plain.0) is).1 ∙ decimal_of-value x w e

  pub none-parsed : (error : E) → r ≡ Err error → (x : Element) → decimal_of x ≢ w
  none-parsed error is x e =
      OkIff-at_err r _ _ error (parse_plain numerals 32 w r parsed plain.0) is
      (decimal_of-digits x w e, decimal_of-nonempty x w e, omega (arith, decimal_of-value x w e, canonical_below x))
