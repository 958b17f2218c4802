use Rattle.std.proofs.Common.{◌*◌, ◌%◌, ◌∙◌}
use Rattle.mlu_lanes.specs.declared.baby_bear.TheConstants.{MODULUS}
use Rattle.mlu_lanes.proofs.Prepared.{prepared_product}
use Rattle.mlu_lanes.proofs.baby_bear.ring.BabyBearPrimeCharacteristicRing.times_fixed.Goals as goal

pub returns : goal.returns
returns g c =
    prepared_product c.args.self c.args.factor _ c.prepared_word-prepared.result c.prepared_word-prepared.ensures.value
    (c.reduce_prepared_word.ensures.value ∙ (λ i. c.from.ensures i * c.from-2.ensures i % MODULUS))
