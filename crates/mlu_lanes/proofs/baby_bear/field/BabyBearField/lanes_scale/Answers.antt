use Rattle.std.proofs.Common.{◌%◌, ap, ◌∙◌}
use Rattle.mlu_lanes.specs.declared.baby_bear.TheConstants.{MODULUS}
use Rattle.mlu_lanes.proofs.PackedSums.{product_of_prepared}
use Rattle.mlu_lanes.proofs.baby_bear.field.BabyBearField.lanes_scale.Goals as goal

pub returns : goal.returns
returns g c =
    product_of_prepared c.args.p c.prepared_product.result c.args.c c.prepared_word.result c.prepared_word.ensures.value (λ j below.
    c.prepared_product.ensures j below ∙ ap (λ n. n % MODULUS) (c.scaled.ensures.value j below))
