-- Each sum is reduced once.
use Rattle.std.proofs.Common.{◌∙◌, lit<}
use Rattle.mlu_lanes.proofs.ResidueSums.{reduced_once}
use Rattle.mlu_lanes.proofs.baby_bear.ring.BabyBearPrimeCharacteristicRing.row_times_columns.Goals as goal

pub returns-clause-first : goal.returns-clause-first
returns-clause-first g c = reduced_once _ _ _ _ _ _ _ _ _ (c.elements_of.ensures.first ∙ c.sum_of_rows.ensures 0 (lit< tt))

pub returns-clause-second : goal.returns-clause-second
returns-clause-second g c = reduced_once _ _ _ _ _ _ _ _ _ (c.elements_of.ensures.second ∙ c.sum_of_rows.ensures 1 (lit< tt))

pub returns-clause-third : goal.returns-clause-third
returns-clause-third g c = reduced_once _ _ _ _ _ _ _ _ _ (c.elements_of.ensures.third ∙ c.sum_of_rows.ensures 2 (lit< tt))

pub returns-clause-fourth : goal.returns-clause-fourth
returns-clause-fourth g c = reduced_once _ _ _ _ _ _ _ _ _ (c.elements_of.ensures.fourth ∙ c.sum_of_rows.ensures 3 (lit< tt))
