use Rattle.std.proofs.Common.{[], ◌∷◌, ◌++◌, ℕ, List, flat_map, ap, ◌∙◌}
use Rattle.mlu_ring.specs.Tables.{weights}
use Rattle.mlu_sumcheck.specs.Rounds.{rounds_of}
use Rattle.mlu_command.specs.Commands.{last_claim}
use Rattle.mlu_command.specs.Elements.{Element, elements}
use Rattle.mlu_command.specs.Words.{line_of}
use Rattle.mlu_command.proofs.Counts.{outcome-memory}
use Rattle.mlu_command.proofs.command.sumcheck.Goals as goal

pub returns-in_err-rounds : goal.returns-in_err-rounds
returns-in_err-rounds c =
    let x = c.in_ok-table.ensures in
    outcome-memory _ _ _ _ c.from_residual-in_err-rounds.result c.from_residual-in_err-rounds.ensures.1 x.0 x.1 x.2 x.3

pub returns-in_err-proof_lines : goal.returns-in_err-proof_lines
returns-in_err-proof_lines c =
    let x = c.in_ok-table.ensures in
    outcome-memory _ _ _ _ c.from_residual-in_err-proof_lines.result c.from_residual-in_err-proof_lines.ensures.1 x.0 x.1 x.2 x.3

-- the lines of the rounds and of the last claim
lines : List Element × List Element × List Element → List ℕ
lines x = flat_map line_of (rounds_of elements (weights elements x.1) x.0 x.2) ++ line_of (last_claim x.0 x.1 x.2 ∷ [])

pub returns : goal.returns
unfolding lines
returns c =
    let x = c.in_ok-table.ensures in
    let e = c.in_ok-table.table in
    let p = c.in_ok-table.point in
    let rounds = c.in_ok-rounds.ensures.rounds ∙ ap (rounds_of elements (weights elements p) e) c.as_slice.ensures in
    let last = c.in_ok-rounds.ensures.last ∙ ap (last_claim e p) c.as_slice.ensures in
    let whole = c.in_ok-proof_lines.ensures ∙ ap (λ r. flat_map line_of r ++ line_of (c.in_ok-rounds.last ∷ [])) rounds ∙ ap (λ y. flat_map line_of (rounds_of elements (weights elements p) e c.in_ok-table.challenges) ++ line_of (y ∷ [])) last in
    (x.0, x.1, x.2, x.3, whole ∙ ap lines x.4)
