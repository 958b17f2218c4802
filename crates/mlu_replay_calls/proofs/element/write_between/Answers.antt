use Rattle.std.proofs.Common.{rules, string_bytes, ◌≡◌, ◌+◌, ◌<◌, ◌∷◌, ◌++◌, [], get_or, length, ◌∙◌, arith}
use Rattle.std.proofs.lemmas.Str.{encode_ascii}
use Rattle.mlu_replay_calls.proofs.Lists.{IsWrittenBetween-first, IsWrittenBetween-more, get_or-rest}
use Rattle.mlu_replay_calls.proofs.element.write_between.Goals as goal

pub loop-x-init : goal.loop-x-init
loop-x-init g c =
    let is : c.args.list.now ≡ c.in-Some.first.now ∷ c.in-Some.rest.now = search rules in
    let (word, stands, written) = c.in_ok-write.ensures in
    rw is (IsWrittenBetween-first g.T.Element.stands c.args.separator (string_bytes c.args.text.now) c.in-Some.first.now c.in-Some.rest.now (string_bytes c.write.new.text) word stands written)

pub loop-x-preserved : goal.loop-x-preserved
loop-x-preserved g c =
    let list = c.args.list.now in
    let i = c.loop-x.x-index in
    let x = c.x-item.result in
    let is : list ≡ c.in-Some.first.now ∷ c.in-Some.rest.now = search rules in
    let size : length list ≡ length c.in-Some.rest.now + 1 = search rules in
    let within : i + 1 < length list = omega (arith, size) in
    let at : x ≡ get_or list (i + 1) x = c.x-item.is ∙ get_or-rest list c.in-Some.first.now c.in-Some.rest.now i x is in
    let separated : string_bytes c.push.new.self ≡ string_bytes c.loop-x.text ++ c.args.separator ∷ [] = search (rules, encode_ascii) in
    let (word, stands, written) = c.in_ok-write-2.ensures in
    IsWrittenBetween-more g.T.Element.stands c.args.separator (string_bytes c.args.text.now) list (i + 1) x (string_bytes c.loop-x.text) (string_bytes c.push.new.self) (string_bytes c.write-in-loop-x.new.text) word
    (omega arith) within at c.loop-x.invariant separated stands written
