-- Each lane is the residue of a sum.
use Rattle.std.proofs.Common.{◌∙◌, lit<}
use Rattle.mlu_lanes.specs.BabyBear.{same_canonical}
use Rattle.mlu_lanes.proofs.baby_bear.columns.column_times_rows.Goals as goal

pub returns-clause-first : goal.returns-clause-first
returns-clause-first g c = same_canonical _ _ (c.elements_of.ensures.first ∙ c.residues_of_sums.ensures 0 (lit< tt))

pub returns-clause-second : goal.returns-clause-second
returns-clause-second g c = same_canonical _ _ (c.elements_of.ensures.second ∙ c.residues_of_sums.ensures 1 (lit< tt))

pub returns-clause-third : goal.returns-clause-third
returns-clause-third g c = same_canonical _ _ (c.elements_of.ensures.third ∙ c.residues_of_sums.ensures 2 (lit< tt))

pub returns-clause-fourth : goal.returns-clause-fourth
returns-clause-fourth g c = same_canonical _ _ (c.elements_of.ensures.fourth ∙ c.residues_of_sums.ensures 3 (lit< tt))
