-- What is known of an answer that may be an error.
use Rattle.std.proofs.Common.{Result, Ok, Err, IfOk}

-- what follows from the value that is there, if there is one
pub ok_more : {T E : Type 0} (P Q : T → Type 0) → ((t : T) → P t → Q t) → (r : Result T E) → IfOk r P → IfOk r Q
ok_more P Q more (Ok t) h = more t h
ok_more P Q more (Err e) h = h
