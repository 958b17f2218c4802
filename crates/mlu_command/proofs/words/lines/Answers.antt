use Rattle.std.proofs.Common.{◌≡◌, ◌+◌, ◌<◌, [], ◌∷◌, ◌++◌, take, length, sym, ap, ◌∙◌, arith}
use Rattle.std.specs.Fmt.{decimal}
use Rattle.std.proofs.lemmas.List.{take_all, take_more, flat_map_more}
use Rattle.mlu_command.specs.Words.{line_of, lines_of}
use Rattle.mlu_command.proofs.words.lines.Goals as goal

pub loop-x-preserved : goal.loop-x-preserved
loop-x-preserved c =
    let elements = c.args.elements.now in
    let i = c.loop-x.x-index in
    let x = c.x-item.result in
    let within : i < length elements = omega arith in
    let more : take (i + 1) elements ≡ take i elements ++ (x ∷ []) = take_more elements i x within ∙ ap (λ y. take i elements ++ (y ∷ [])) (sym c.x-item.is) in
    c.in_ok-writeln.ensures.bytes
    ∙ ap (λ t. t ++ (decimal c.as_canonical_u32-value.result ++ (10 ∷ []))) c.loop-x.invariant
    ∙ ap (λ n. lines_of (take i elements) ++ (decimal n ++ (10 ∷ []))) c.as_canonical_u32-value.ensures.residue
    ∙ flat_map_more (λ y. line_of (y ∷ [])) [] (take i elements) x
    ∙ ap lines_of (sym more)

pub returns : goal.returns
returns c =
    let whole : take c.loop-x.x-index c.args.elements.now ≡ c.args.elements.now = take_all c.loop-x.x-index c.args.elements.now (omega arith) in
    rw (c.into_bytes.ensures.value) (c.loop-x.invariant ∙ ap lines_of whole)
