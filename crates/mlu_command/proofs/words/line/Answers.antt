use Rattle.std.proofs.Common.{◌≡◌, ◌+◌, ◌<◌, [], ◌∷◌, ◌++◌, map, take, length, sym, ap, ◌∙◌, arith}
use Rattle.std.specs.List.{join_with_byte}
use Rattle.std.specs.Fmt.{decimal}
use Rattle.std.proofs.lemmas.List.{map-append, take_all, take_more}
use Rattle.mlu_command.specs.Words.{decimal_of}
use Rattle.mlu_command.proofs.Texts.{join_with_byte-more}
use Rattle.mlu_command.proofs.words.line.Goals as goal

pub loop-x-preserved : goal.loop-x-preserved
loop-x-preserved c =
    let rest = c.in-Some.rest.now in
    let i = c.loop-x.x-index in
    let x = c.x-item.result in
    let first = decimal c.as_canonical_u32-value.result in
    let within : i < length rest = omega arith in
    let more : take (i + 1) rest ≡ take i rest ++ (x ∷ []) = take_more rest i x within ∙ ap (λ y. take i rest ++ (y ∷ [])) (sym c.x-item.is) in
    let pieces : map decimal_of (take (i + 1) rest) ≡ map decimal_of (take i rest) ++ (decimal_of x ∷ []) = ap (map decimal_of) more ∙ map-append decimal_of (take i rest) (x ∷ []) in
    c.in_ok-write.ensures.bytes
    ∙ ap (λ t. t ++ (44 ∷ decimal c.as_canonical_u32-value-in-loop-x.result)) c.loop-x.invariant
    ∙ ap (λ n. join_with_byte 44 (first ∷ map decimal_of (take i rest)) ++ (44 ∷ decimal n)) c.as_canonical_u32-value-in-loop-x.ensures.residue
    ∙ sym (join_with_byte-more 44 first (map decimal_of (take i rest)) (decimal_of x))
    ∙ ap (λ ps. join_with_byte 44 (first ∷ ps)) (sym pieces)

pub returns : goal.returns
unfolding lib.Utf8.encode
returns c =
    let rest = c.in-Some.rest.now in
    let whole : take c.loop-x.x-index rest ≡ rest = take_all c.loop-x.x-index rest (omega arith) in
    let joined = c.in-Some.ensures.cases in
    rw (joined.0, c.into_bytes.ensures.value)
    (c.in_ok-push.ensures.bytes
    ∙ ap (λ t. t ++ (10 ∷ [])) (c.loop-x.invariant ∙ ap (λ n. join_with_byte 44 (decimal n ∷ map decimal_of (take c.loop-x.x-index rest))) c.as_canonical_u32-value.ensures.residue ∙ ap (λ xs. join_with_byte 44 (decimal_of c.in-Some.first.now ∷ map decimal_of xs)) whole))
