-- The calls that write one output, by their names: what each writes, and what is left as before.
use Rattle.std.specs.Prelude.{ℕ, ⊤, List, Result}
use Rattle.mlu_ring.specs.Ring.{Ring}
use Rattle.mlu_ring.specs.Tables.{value}
use Rattle.mlu_words.specs.declared.fault.Fault.{Fault}
use Rattle.mlu_words.specs.declared.calls.Call.{Call}
use Rattle.mlu_words.specs.declared.calls.Call.TheVariants.{EvalBase, EvalExt, EvalEqBatch, Compress}
use Rattle.mlu_words.specs.Codings.{Coding}
use Rattle.mlu_words.specs.Calls.{Batches, Compresses, Evaluates, embedded_compressed, embedded_value_at}

-- the call on its operands, the third of which is a scale or not read
abbrev pub Gives : {A B : Type 0} → Coding A → Coding B → Ring B → (A → B) → Call → List ℕ → List ℕ → List ℕ → List ℕ → List ℕ → Result ⊤ Fault → Type 0
Gives a b ring embed (EvalBase vertices) table point _ = Evaluates a b (embedded_value_at vertices ring embed) table point
Gives a b ring _ EvalExt table point _ = Evaluates b b (value ring) table point
Gives a b ring _ (EvalEqBatch adds) values scalars _ = Batches b ring adds values scalars
Gives a b ring embed (Compress variables) table point scale = Compresses a b (embedded_compressed variables ring embed) table point scale
