use Rattle.std.proofs.Common.{map, ap, ◌∙◌}
use Rattle.std.proofs.lemmas.List.{map-id}
use Rattle.mlu_ring.specs.Tables.{front, line}
use Rattle.mlu_command.specs.Elements.{elements}
use Rattle.mlu_command.specs.Words.{line_of}
use Rattle.mlu_command.proofs.Counts.{outcome-memory}
use Rattle.mlu_command.proofs.command.fold_first.Goals as goal

pub returns-in_err-folded : goal.returns-in_err-folded
returns-in_err-folded c =
    let x = c.in_ok-table.ensures in
    outcome-memory _ _ _ _ c.from_residual-in_err-folded.result c.from_residual-in_err-folded.ensures.1 x.0 x.1 x.2 x.3

pub returns-in_err-line : goal.returns-in_err-line
returns-in_err-line c =
    let x = c.in_ok-table.ensures in
    outcome-memory _ _ _ _ c.from_residual-in_err-line.result c.from_residual-in_err-line.ensures.1 x.0 x.1 x.2 x.3

pub returns : goal.returns
returns c =
    let x = c.in_ok-table.ensures in (
      x.0,
      x.1,
      x.2,
      x.3,
      c.in_ok-line.ensures
          ∙ ap line_of (c.as_slice.ensures.value ∙ c.in_ok-folded.ensures ∙ ap (λ y. front elements (line elements y.1) (map (λ z. z) y.0)) x.4 ∙ ap (front elements (line elements x.0.1)) (map-id x.0.0)),
    )
