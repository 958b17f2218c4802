use Rattle.std.proofs.Common.{◌∙◌}
use Rattle.mlu_lanes.proofs.Spread.{spread_lane}
use Rattle.mlu_lanes.proofs.words.spread.Goals as goal

pub returns : goal.returns
returns c = λ j h. c.lower_halves.ensures j h ∙ spread_lane c.args.word c.ranges.word.fits j h
