-- The calls: what they write where their operands are as demanded, and what is left as before where not.
use Rattle.std.specs.Prelude.{◌≡◌, ℕ, ◌/◌, ◌++◌, ⊤, Bool, true, false, List, Result, Some, None, length, drop, map, flat_map}
use Rattle.std.specs.List.{range_with_len}
use Rattle.mlu_ring.specs.Matrices.{row_at}
use Rattle.mlu_ring.specs.Ring.{Ring}
use Rattle.mlu_ring.specs.Successor.{next}
use Rattle.mlu_ring.specs.Tables.{first_folded, last_folded, pair, value, weights}
use Rattle.mlu_point.specs.declared.point.order.BitOrder.{BitOrder}
use Rattle.mlu_point.specs.Batches.{with_batch}
use Rattle.mlu_point.specs.Orders.{weights_by}
use Rattle.multilinear_util.specs.Compressions.{prefix_compressed, suffix_compressed}
use Rattle.mlu_sumcheck.specs.Rounds.{rounds_of, BeginWithSum, EndWithProduct, Fit, IsLastClaim}
use Rattle.mlu_words.specs.declared.fault.Fault.{Fault}
use Rattle.mlu_words.specs.declared.evaluation.Vertices.{Vertices}
use Rattle.mlu_words.specs.declared.evaluation.Vertices.TheVariants.{Own, Next}
use Rattle.mlu_words.specs.declared.operands.Variables.{Variables}
use Rattle.mlu_words.specs.declared.operands.Variables.TheVariants.{First, Last}
use Rattle.mlu_words.specs.Codings.{Coding, elements_of, words_of}
use Rattle.mlu_words.specs.Operands.{BatchOperands, CompressionOperands, EvaluationOperands, FoldOperands, ProofOperands, VerifierOperands, WeightsOperands}
use Rattle.mlu_words.specs.Outcomes.{Outcome}

-- an element of a table and of a point, which has as many coordinates as the table has variables
abbrev pub Evaluates : {A B : Type 0} → Coding A → Coding B → (List A → List B → B) → List ℕ → List ℕ → List ℕ → List ℕ → Result ⊤ Fault → Type 0
Evaluates a b element table point old new = Outcome
    (EvaluationOperands a b table point old)
    (λ _. new ≡ b.words (element (elements_of a table) (elements_of b point)))
    (new ≡ old)

-- the value at a point of a table whose entries are embedded in the ring
abbrev pub embedded_value : {A B : Type 0} → Ring B → (A → B) → List A → List B → B
embedded_value ring embed e p = value ring (map embed e) p

-- the sum of the weight at the point of each vertex times the embedded entry at the next one
abbrev pub embedded_next_value : {A B : Type 0} → Ring B → (A → B) → List A → List B → B
embedded_next_value ring embed e p = pair ring (next ring (weights ring p)) (map embed e)

-- the one or the other
abbrev pub embedded_value_at : {A B : Type 0} → Vertices → Ring B → (A → B) → List A → List B → B
embedded_value_at Own = embedded_value
embedded_value_at Next = embedded_next_value

-- the table of a point and of a scale, with as many variables as the point has coordinates
abbrev pub Tabulates : {B : Type 0} → Coding B → (List B → B → List B) → List ℕ → List ℕ → List ℕ → List ℕ → Result ⊤ Fault → Type 0
Tabulates b table point scale old new = Outcome
    (WeightsOperands b point scale old)
    (λ _. new ≡ words_of b (table (elements_of b point) (b.element scale)))
    (new ≡ old)

-- the weights of all vertices at a point in the order, each times a scale
abbrev pub scaled_weights : {B : Type 0} → BitOrder → Ring B → List B → B → List B
scaled_weights order ring p s = map (ring.product s) (weights_by order ring p)

-- a table with one of its variables at an element, in the first half of its words; the other half is as before
abbrev pub Folds : {B : Type 0} → Coding B → (B → List B → List B) → List ℕ → List ℕ → List ℕ → Result ⊤ Fault → Type 0
Folds b fold r old new = Outcome
    (FoldOperands b old r)
    (λ _. new ≡ words_of b (fold (b.element r) (elements_of b old)) ++ drop (length old / 2) old)
    (new ≡ old)

-- the table with the variable at r
abbrev pub folded : {B : Type 0} → Variables → Ring B → B → List B → List B
folded First = first_folded
folded Last = last_folded

-- a table with some of its variables at a point, times a scale, with the variables that are left
abbrev pub Compresses : {A B : Type 0} → Coding A → Coding B → (List A → List B → B → List B) → List ℕ → List ℕ → List ℕ → List ℕ → List ℕ → Result ⊤ Fault → Type 0
Compresses a b compressed table point scale old new = Outcome
    (CompressionOperands a b table point scale old)
    (λ _. new ≡ words_of b (compressed (elements_of a table) (elements_of b point) (b.element scale)))
    (new ≡ old)

-- the table, its entries embedded in the ring, with its first variables at the point, times the scale
abbrev pub embedded_prefix : {A B : Type 0} → Ring B → (A → B) → List A → List B → B → List B
embedded_prefix ring embed e p s = prefix_compressed ring s p (map embed e)

-- the same with its last variables at the point
abbrev pub embedded_suffix : {A B : Type 0} → Ring B → (A → B) → List A → List B → B → List B
embedded_suffix ring embed e p s = suffix_compressed ring s p (map embed e)

-- the same with these variables at the point
abbrev pub embedded_compressed : {A B : Type 0} → Variables → Ring B → (A → B) → List A → List B → B → List B
embedded_compressed First = embedded_prefix
embedded_compressed Last = embedded_suffix

-- the batch of the points in the columns of the values, each with a scalar, or its sums with the elements of the output
abbrev pub batch_of : {B : Type 0} → Coding B → Ring B → Bool → List ℕ → List ℕ → List ℕ → List B
batch_of b ring adds values scalars old = with_batch ring adds (elements_of b old) (elements_of b values) (elements_of b scalars)

-- that batch, or its sums with what stood in the output, which is read in that case alone
abbrev pub Batches : {B : Type 0} → Coding B → Ring B → Bool → List ℕ → List ℕ → List ℕ → List ℕ → Result ⊤ Fault → Type 0
Batches b ring adds values scalars old new = Outcome
    (BatchOperands b adds values scalars old)
    (λ _. new ≡ words_of b (batch_of b ring adds values scalars old))
    (new ≡ old)

-- the claims of a proof: the first is the sum of the products of both tables, each fits the round before it, the last is the product of both values
abbrev pub AreClaims : {B : Type 0} → Ring B → List B → List B → List B → List B → Type 0
AreClaims ring w e challenges claims = BeginWithSum ring claims w e × Fit ring claims (rounds_of ring w e challenges) challenges × EndWithProduct ring claims w e challenges

-- the elements of the rounds of both tables at the challenges, one after the other
abbrev pub round_elements : {B : Type 0} → Ring B → List B → List B → List B → List B
round_elements ring w e challenges = flat_map (λ round. round) (rounds_of ring w e challenges)

-- the rounds of sumcheck over the weights of a point and a table, three elements each, and the claims
abbrev pub Proves : {B : Type 0} → Coding B → Ring B → List ℕ → List ℕ → List ℕ → List ℕ → List ℕ → List ℕ → List ℕ → Result ⊤ Fault → Type 0
Proves {B} b ring table point challenges rounds claims new_rounds new_claims =
    let w = weights ring (elements_of b point) in
    let e = elements_of b table in
    let rs = elements_of b challenges in
    Outcome
    (ProofOperands b table point challenges rounds claims)
    (λ _. (new_rounds ≡ words_of b (round_elements ring w e rs)) × (cs : List B) × (new_claims ≡ words_of b cs) × AreClaims ring w e rs cs)
    ((new_rounds ≡ rounds) × (new_claims ≡ claims))

-- the elements three by three
abbrev pub triples : {B : Type 0} → List B → List (List B)
triples xs = map (row_at 3 xs) (range_with_len 0 (length xs / 3))

-- the last claim where claims from the first one on fit, and else no claims do
abbrev pub Decides : {B : Type 0} → Coding B → Ring B → B → List (List B) → List B → List ℕ → List ℕ → Bool → Type 0
Decides {B} b ring claim rounds challenges old new true = (last : B) × IsLastClaim ring claim rounds challenges (Some last) × (new ≡ b.words last)
Decides {B} b ring claim rounds challenges old new false = IsLastClaim ring claim rounds challenges None × (new ≡ old)

-- whether rounds of three elements each fit a claim at the challenges
abbrev pub Verifies : {B : Type 0} → Coding B → Ring B → List ℕ → List ℕ → List ℕ → List ℕ → List ℕ → Result Bool Fault → Type 0
Verifies b ring claim rounds challenges old new = Outcome
    (VerifierOperands b claim rounds challenges old)
    (Decides b ring (b.element claim) (triples (elements_of b rounds)) (elements_of b challenges) old new)
    (new ≡ old)
