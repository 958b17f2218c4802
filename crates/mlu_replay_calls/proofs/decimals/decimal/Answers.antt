use Rattle.std.proofs.Common.{refl}
use Rattle.std.proofs.lemmas.Bool.{false≢true}
use Rattle.mlu_replay_calls.proofs.Parsing.{decimal-HasPlainStart, number-parsed}
use Rattle.mlu_replay_calls.proofs.decimals.decimal.Goals as goal

pub returns-then-not-has_plain_start : goal.returns-then-not-has_plain_start
returns-then-not-has_plain_start c = λ n fits is. false≢true (c.if-not-has_plain_start.ensures.1 (decimal-HasPlainStart n fits c.args.word.now is))

pub returns : goal.returns
returns c = rw c.ok.ensures.value (number-parsed c.args.word.now c.parse.result c.parse.ensures.value.0 (c.if-not-has_plain_start.ensures.0 refl))
