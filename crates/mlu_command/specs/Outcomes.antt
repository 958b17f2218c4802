-- What reading operands and working on them comes to.
use Rattle.std.specs.Prelude.{Result, Ok, Err}
use Rattle.mlu_command.specs.declared.fault.Fault.{Fault}
use Rattle.mlu_command.specs.declared.fault.Fault.TheVariants.{Usage, Number, Length, Arity, Memory}

-- The first fault of operands of type X that are read from words, or what is given for them.
-- `Reads x` says that the words stand for x, `IsSized` that its sizes are right, and `Fits` that they
-- fit one another; want of memory comes where there is no other fault.
abbrev pub IsOutcome : {X Y : Type 0} → (X → Type 0) → (X → Type 0) → (X → Type 0) → (X → Y → Type 0) → Result Y Fault → Type 0
IsOutcome {X} Reads IsSized Fits Gives (Ok y) = (x : X) × Reads x × IsSized x × Fits x × Gives x y
IsOutcome {X} Reads IsSized Fits Gives (Err Usage) = ⊥
IsOutcome {X} Reads IsSized Fits Gives (Err Number) = (x : X) → Reads x → ⊥
IsOutcome {X} Reads IsSized Fits Gives (Err Length) = (x : X) × Reads x × (IsSized x → ⊥)
IsOutcome {X} Reads IsSized Fits Gives (Err Arity) = (x : X) × Reads x × IsSized x × (Fits x → ⊥)
IsOutcome {X} Reads IsSized Fits Gives (Err Memory) = (x : X) × Reads x × IsSized x × Fits x
