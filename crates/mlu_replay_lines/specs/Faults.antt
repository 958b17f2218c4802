-- The reasons why a line is no case, in words.
use Rattle.std.specs.Prelude.{ℕ, List, codes}
use Rattle.mlu_replay_lines.specs.declared.fault.Reason.{Reason}
use Rattle.mlu_replay_lines.specs.declared.fault.Reason.TheVariants.{Text, Equals, Missing, Surplus, Width, Tag, Op, Element, Number, Choice, Length, Size, Large}

abbrev pub reason_text : Reason → List ℕ
reason_text Text = codes "the line is no UTF-8 text"
reason_text Equals = codes "there is no `=` before an answer"
reason_text Missing = codes "a word is missing"
reason_text Surplus = codes "there are too many words"
reason_text Width = codes "the width is none of 1, 2, 4, 8, 16"
reason_text Tag = codes "the tag is none of b, m, e, p0, p1, p8, p9, u"
reason_text Op = codes "unknown op at this tag"
reason_text Element = codes "a word is no element of its ring, nor a list of such"
reason_text Number = codes "a word is no decimal below 2^64"
reason_text Choice = codes "a word is none of the two that it can be"
reason_text Length = codes "the length of a table is no power of two"
reason_text Size = codes "the call does not accept these sizes"
reason_text Large = codes "a table or a point would have more than 2^24 entries"
