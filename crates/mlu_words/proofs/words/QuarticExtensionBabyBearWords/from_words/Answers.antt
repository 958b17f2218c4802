use Rattle.mlu_lanes.specs.BabyBear.{same_canonical}
use Rattle.mlu_ext.specs.QuarticLaws.{quartic_same}
use Rattle.mlu_words.proofs.words.QuarticExtensionBabyBearWords.from_words.Goals as goal

pub returns : goal.returns
returns g c = quartic_same (same_canonical _ _ c.from_u32.ensures) (same_canonical _ _ c.from_u32-2.ensures) (same_canonical _ _ c.from_u32-3.ensures) (same_canonical _ _ c.from_u32-4.ensures)
