-- What decimals look like, and what `parse` gives of words.
use Rattle.std.proofs.Common.{◌≡◌, ℕ, ◌+◌, ◌^◌, ◌<◌, ◌≤◌, List, [], ◌∷◌, length, get_or, sym, ap, ◌∙◌, ⊎_elim, arith, Ok, Err, Result, refl}
use Rattle.std.specs.Str.Parse.{AllDigits, digits_value, ParsesUnsigned}
use Rattle.std.specs.Fmt.{decimal}
use Rattle.std.specs.Option.{MatchOption}
use Rattle.std.specs.Result.{result_ok}
use Rattle.std.proofs.lemmas.Str.Parse.{IsNumeralModel, numerals_by_value, tells_digits, parse_plain, digit_at}
use Rattle.std.proofs.lemmas.Fmt.{digits_decimal, digits_value-decimal, decimal_nonempty, first_decimal, decimal-digits_value, decimal_digit, decimal_injective}
use Rattle.std.proofs.lemmas.Result.{OkIff-at_ok, OkIff-at_err}
use Rattle.std.proofs.lemmas.Bool.{cases_lt}
use Rattle.mlu_lanes.specs.BabyBear.{canonical, canonical_below}
use Rattle.mlu_lanes.specs.declared.baby_bear.BabyBear.{BabyBear}
use Rattle.mlu_lanes.specs.declared.baby_bear.TheConstants.{MODULUS}
use Rattle.mlu_replay_calls.specs.Words.{HasPlainStart, IsNoDecimal}

numerals : IsNumeralModel (AllDigits 10) (digits_value 10)
numerals = numerals_by_value (AllDigits 10) tells_digits

module _ (n : ℕ) (fits : n < 2 ^ 64) (word : List ℕ) (is : decimal n ≡ word) where
  pub decimal-all_digits : AllDigits 10 word
  decimal-all_digits = rw is at (digits_decimal numerals n fits)

  decimal-value : digits_value 10 word ≡ n
  decimal-value = rw is at (digits_value-decimal numerals n fits)

  decimal-some : 0 < length word
  decimal-some = rw is at (decimal_nonempty n fits)

  -- only the decimal of zero begins with a zero
  decimal-leading_zero : get_or word 0 0 ≡ 48 → length word ≡ 1
  decimal-leading_zero zero =
      ⊎_elim
      (λ (positive : 0 < n). absurd (omega (arith, rw is at (first_decimal n positive fits))))
      (λ (none : n ≤ 0).
      let one : decimal n ≡ (48 + n) ∷ [] = decimal_digit n (omega arith) in
      sym (ap length is) ∙ ap length one)
      (cases_lt 0 n)

  pub decimal-HasPlainStart : HasPlainStart word
  decimal-HasPlainStart = (λ plus. omega (arith, plus, (digit_at word 0 decimal-all_digits decimal-some).0), decimal-leading_zero)

-- what `parse` gives of a word with a plain start
module _ {E : Type 0} (word : List ℕ) (result : Result ℕ E) (parsed : ParsesUnsigned 64 10 word result) (plain : HasPlainStart word) where
  decimal-parsed : (n : ℕ) → result ≡ Ok n → decimal n ≡ word
  decimal-parsed n is =
      let parts = OkIff-at_ok result _ _ n (parse_plain numerals 64 word result parsed plain.0) is in
      ap decimal parts.1 ∙ decimal-digits_value numerals word parts.0.0 parts.0.1 (λ h. omega (arith, plain.1 h, parts.0.1)) (omega (arith, parts.0.2))

  none-parsed : (error : E) → result ≡ Err error → IsNoDecimal word
  none-parsed error is n fits same =
      OkIff-at_err result _ _ error (parse_plain numerals 64 word result parsed plain.0) is
      (decimal-all_digits n fits word same, decimal-some n fits word same, omega (arith, decimal-value n fits word same, fits))

  pub number-parsed : MatchOption (result_ok result) (IsNoDecimal word) (λ n. decimal n ≡ word)
  number-parsed = by_result result refl
    where
      by_result : (r : Result ℕ E) → result ≡ r → MatchOption (result_ok r) (IsNoDecimal word) (λ n. decimal n ≡ word)
      by_result (Ok n) is = decimal-parsed n is
      by_result (Err error) is = none-parsed error is

pub decimal-same : (word : List ℕ) (m n : ℕ) → m < 2 ^ 64 → n < 2 ^ 64 → decimal m ≡ word → decimal n ≡ word → m ≡ n
decimal-same word m n fits fits-n is is-n = decimal_injective m n fits fits-n (is ∙ sym is-n)

-- the decimal of a number that is no least residue
pub decimal-above : {W : ℕ} (word : List ℕ) (n : ℕ) → n < 2 ^ 64 → decimal n ≡ word → MODULUS ≤ n → (x : BabyBear W) → decimal (canonical x) ≡ word → ⊥
decimal-above word n fits is above x same =
    let below : canonical x < MODULUS = canonical_below x in
    absurd (omega (arith, below, above, decimal-same word n (canonical x) fits (omega (arith, below)) is same))
