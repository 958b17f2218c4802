use Rattle.std.proofs.Common.{◌≡◌, ◌*◌, ◌++◌, take, drop}
use Rattle.mlu_words.specs.Codings.{words_of}
use Rattle.mlu_words.proofs.words.write.Given as goal

abbrev pub invariant-loop-i : goal.invariant-loop-i
invariant-loop-i g l = l.out ≡ words_of g.T.Words.coding (take l.i l.elements) ++ drop (l.i * g.T.Words.coding.width) l.initial.out
