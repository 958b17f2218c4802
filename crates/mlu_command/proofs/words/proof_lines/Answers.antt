use Rattle.std.proofs.Common.{◌++◌, [], flat_map, ap, sym, ◌∙◌, rules}
use Rattle.std.proofs.lemmas.List.{flat_map_more, map-id}
use Rattle.std.proofs.lemmas.Iterator.Adapters.{YieldsList-from_vec}
use Rattle.std.proofs.lemmas.Iterator.Consumers.{YieldsList-end}
use Rattle.mlu_command.specs.Words.{line_of}
use Rattle.mlu_command.proofs.words.proof_lines.Goals as goal

pub loop-round-preserved : goal.loop-round-preserved
loop-round-preserved c =
    c.in_ok-extend_from_slice.ensures.items
    ∙ ap (λ t. t ++ c.deref.result.now) c.loop-round.invariant
    ∙ ap (λ t. flat_map line_of c.loop-round.yielded ++ t) (c.deref.ensures.value ∙ c.in_ok-line.ensures)
    ∙ flat_map_more line_of [] c.loop-round.yielded c.in-Some.round

pub returns : goal.returns
returns c =
    let end = YieldsList-end (YieldsList-from_vec {s = c.into_iter-round-iterator.result} c.args.rounds.items (search rules) (search rules))
    c.loop-round.yielded c.loop-round.round-iterator c.loop-round.yielded_by c.next.result c.next.new.self c.in-None.is c.next.ensures.steps in
    c.in_ok-extend_from_slice-2.ensures.items
    ∙ ap (λ t. t ++ c.deref-2.result.now) (c.loop-round.invariant ∙ ap (flat_map line_of) (sym (map-id c.loop-round.yielded) ∙ end.0))
    ∙ ap (λ t. flat_map line_of c.args.rounds.items ++ t) (c.deref-2.ensures.value ∙ c.in_ok-line-2.ensures)
