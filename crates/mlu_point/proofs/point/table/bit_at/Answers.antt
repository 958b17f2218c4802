use Rattle.std.proofs.Common.{sym}
use Rattle.mlu_point.proofs.Expansion.{bit-none}
use Rattle.mlu_point.proofs.point.table.bit_at.Goals as goal

pub returns-else-place : goal.returns-else-place
returns-else-place c = sym (bit-none c.args.number c.args.place c.ranges.number.fits c.if-place.false)
