use Rattle.std.proofs.Common.{inr}
use Rattle.mlu_replay_calls.proofs.element.ProductAlgebraBabyBearElement.read.Goals as goal

pub returns-in-Some : goal.returns-in-Some
returns-in-Some g c = inr (c.in-Some.copied, c.in-Some.ensures, c.from_base.ensures)
