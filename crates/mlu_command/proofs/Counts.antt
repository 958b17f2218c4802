-- Operands by the counts of their words, and what their faults come to.
use Rattle.std.proofs.Common.{◌≡◌, ◌≢◌, ℕ, zero, suc, ◌^◌, ◌<◌, List, length, Option, Some, None, Result, Ok, Err, sym, ap, ◌∙◌, subst, refl, arith}
use Rattle.std.specs.Int.{IsPowerOfTwo}
use Rattle.std.specs.Option.{ok_or}
use Rattle.std.specs.Result.{IsErrAnd}
use Rattle.std.proofs.lemmas.Nat.{pow_pos}
use Rattle.mlu_ring.proofs.PowersOfTwo.{power_injective}
use Rattle.mlu_command.specs.declared.fault.Fault.{Fault}
use Rattle.mlu_command.specs.declared.fault.Fault.TheVariants.{Length, Memory}
use Rattle.mlu_command.specs.Elements.{Element}
use Rattle.mlu_command.specs.Words.{IsTextOf}
use Rattle.mlu_command.specs.Operands.{AreThreeTexts, IsTable, IsTableOfPoints, IsPointOf, ArePointsOf, HasVariable}
use Rattle.mlu_command.specs.Outcomes.{IsOutcome}

-- what `ok_or` makes of None
pub fault-of-None : {X : Type 0} (o : Option X) (fault given : Fault) → Err fault ≡ ok_or o given → o ≡ None → fault ≡ given
fault-of-None None fault given e h = cc
fault-of-None (Some x) fault given e h = cc

-- a wrong size
pub outcome-length : {X Y : Type 0} (Reads IsSized Fits : X → Type 0) (G : X → Y → Type 0) (result : Result Y Fault) (fault : Fault) → IsErrAnd result (λ f. f ≡ fault) → fault ≡ Length → (x : X) → Reads x → (IsSized x → ⊥) → IsOutcome Reads IsSized Fits G result
outcome-length Reads IsSized Fits G (Ok y) fault h is x reads wrong = absurd h
outcome-length Reads IsSized Fits G (Err f) fault h is x reads wrong = subst (λ g. IsOutcome Reads IsSized Fits G (Err g)) (sym (h ∙ is)) (x, reads, wrong)

-- want of memory, where there is no other fault
pub outcome-memory : {X Y : Type 0} (Reads IsSized Fits : X → Type 0) (G : X → Y → Type 0) (result : Result Y Fault) → IsErrAnd result (λ fault. fault ≡ Memory) → (x : X) → Reads x → IsSized x → Fits x → IsOutcome Reads IsSized Fits G result
outcome-memory Reads IsSized Fits G (Ok y) h x reads sized fits = absurd h
outcome-memory Reads IsSized Fits G (Err fault) h x reads sized fits = subst (λ f. IsOutcome Reads IsSized Fits G (Err f)) (sym h) (x, reads, sized, fits)

-- a table of so many entries, and whatever stands beside it
module _ {X : Type 0} (table : List ℕ) (entries : ℕ) (e : IsTextOf entries table) (x : X) where
  pub not-IsTable : (IsPowerOfTwo entries → ⊥) → IsTable (e.0, x) → ⊥
  not-IsTable none long = none (long.0, sym e.2 ∙ long.1)

module _ {X : Type 0} (table : List ℕ) (entries variables : ℕ) (e : IsTextOf entries table) (x : X) where
  pub IsTable-counted : entries ≡ 2 ^ variables → IsTable (e.0, x)
  IsTable-counted power = (variables, e.2 ∙ power)

  pub not-HasVariable : entries ≡ 2 ^ variables → variables ≡ 0 → HasVariable (e.0, x) → ⊥
  not-HasVariable power none more = absurd (omega (arith, sym e.2, power, ap (λ n. 2 ^ n) none, more))

  pub HasVariable-counted : entries ≡ 2 ^ variables → variables ≢ 0 → HasVariable (e.0, x)
  HasVariable-counted power some = by_variables variables power some
    where
      by_variables : (n : ℕ) → entries ≡ 2 ^ n → n ≢ 0 → 1 < length e.0
      by_variables zero is ne = absurd (ne refl)
      by_variables (suc n) is ne = omega (arith, e.2, is, pow_pos n)

-- and a point of so many coordinates
module _ (table point : List ℕ) (entries variables coordinates : ℕ) (e : IsTextOf entries table) (p : IsTextOf coordinates point) (power : entries ≡ 2 ^ variables) where
  pub not-IsPointOf : variables ≢ coordinates → IsPointOf (e.0, p.0) → ⊥
  not-IsPointOf ne same = ne (power_injective variables coordinates (sym power ∙ sym e.2 ∙ same ∙ ap (λ n. 2 ^ n) p.2))

  pub IsPointOf-counted : variables ≡ coordinates → IsPointOf (e.0, p.0)
  IsPointOf-counted same = e.2 ∙ power ∙ ap (λ n. 2 ^ n) (same ∙ sym p.2)

-- and two points beside a table
module _ (table first second : List ℕ) (entries variables coordinates others : ℕ) (e : IsTextOf entries table) (p : IsTextOf coordinates first) (q : IsTextOf others second) where
  pub not-IsTableOfPoints : (IsPowerOfTwo entries → ⊥) → IsTableOfPoints (e.0, p.0, q.0) → ⊥
  not-IsTableOfPoints none long = none (long.0, sym e.2 ∙ long.1)

  pub IsTableOfPoints-counted : entries ≡ 2 ^ variables → IsTableOfPoints (e.0, p.0, q.0)
  IsTableOfPoints-counted power = (variables, e.2 ∙ power)

  pub ArePointsOf-counted : entries ≡ 2 ^ variables → variables ≡ coordinates → variables ≡ others → ArePointsOf (e.0, p.0, q.0)
  ArePointsOf-counted power one other =
      (IsPointOf-counted table first entries variables coordinates e p power one, IsPointOf-counted table second entries variables others e q power other)

  pub points-memory : {Y : Type 0} (G : List Element × List Element × List Element → Y → Type 0) (result : Result Y Fault) → IsErrAnd result (λ fault. fault ≡ Memory) → entries ≡ 2 ^ variables → variables ≡ coordinates → variables ≡ others → IsOutcome (AreThreeTexts table first second) IsTableOfPoints ArePointsOf G result
  points-memory G result h power one other =
      outcome-memory _ _ _ G result h (e.0, p.0, q.0) (e.1, p.1, q.1) (IsTableOfPoints-counted power) (ArePointsOf-counted power one other)
