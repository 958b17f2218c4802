-- What a call comes to: the first refusal of its operands, or its answer.
use Rattle.std.specs.Prelude.{◌≡◌, ℕ, ⊤, Bool, true, false, Result, Ok, Err}
use Rattle.mlu_words.specs.declared.fault.Fault.{Fault}
use Rattle.mlu_words.specs.declared.fault.Fault.TheVariants.{Length, Arity, Residue, Memory}

-- What a call demands of its operands: that each has a size that it may have, that the sizes fit one
-- another, and that the words that are read are residues.
pub record Demands : Type 1 where
  pub sized : Type 0
  pub fit : Type 0
  pub canonical : Type 0

-- the first demand, in this order, that is not met
abbrev pub Tested : Demands → Result ⊤ Fault → Type 0
Tested demands (Ok done) = demands.sized × demands.fit × demands.canonical
Tested demands (Err Length) = demands.sized → ⊥
Tested demands (Err Arity) = demands.sized × (demands.fit → ⊥)
Tested demands (Err Residue) = demands.sized × demands.fit × (demands.canonical → ⊥)
Tested demands (Err Memory) = ⊥

-- The answer where all demands are met, and else what is left where the first is not: want of memory
-- comes where there is no other refusal.
abbrev pub Outcome : {X : Type 0} → Demands → (X → Type 0) → Type 0 → Result X Fault → Type 0
Outcome demands Written Left (Ok x) = demands.sized × demands.fit × demands.canonical × Written x
Outcome demands Written Left (Err Length) = (demands.sized → ⊥) × Left
Outcome demands Written Left (Err Arity) = demands.sized × (demands.fit → ⊥) × Left
Outcome demands Written Left (Err Residue) = demands.sized × demands.fit × (demands.canonical → ⊥) × Left
Outcome demands Written Left (Err Memory) = demands.sized × demands.fit × demands.canonical × Left

-- the number of a refusal
abbrev pub fault_status : Fault → ℕ
fault_status Length = 1
fault_status Arity = 2
fault_status Residue = 3
fault_status Memory = 4

-- the number that the caller gets
abbrev pub status_of : Result ⊤ Fault → ℕ
status_of (Ok done) = 0
status_of (Err fault) = fault_status fault

-- the status is that of what the call comes to
abbrev pub Answers : (Result ⊤ Fault → Type 0) → ℕ → Type 0
Answers Comes status = (outcome : Result ⊤ Fault) × (status ≡ status_of outcome) × Comes outcome

-- the number that a caller of the verifier gets
abbrev pub verdict_of : Result Bool Fault → ℕ
verdict_of (Ok true) = 0
verdict_of (Ok false) = 5
verdict_of (Err fault) = fault_status fault

-- the status is that of what the verifier comes to
abbrev pub Judges : (Result Bool Fault → Type 0) → ℕ → Type 0
Judges Comes status = (outcome : Result Bool Fault) × (status ≡ verdict_of outcome) × Comes outcome
