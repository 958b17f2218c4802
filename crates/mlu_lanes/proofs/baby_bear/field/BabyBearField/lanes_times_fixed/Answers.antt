-- The products with the prepared lanes, each reduced once, are those of the ring.
use Rattle.mlu_lanes.proofs.PackedSums.{product_of_prepared_lanes}
use Rattle.mlu_lanes.proofs.baby_bear.field.BabyBearField.lanes_times_fixed.Goals as goal

pub returns : goal.returns
returns g c =
    product_of_prepared_lanes c.args.p c.args.factor c.prepared_product.result (λ j below.
    let residue = c.prepared_product.ensures j below in
    let product = c.scaled_each.ensures.value j below in
    let prepared = c.reduce_each_product-prepared.ensures j below in
    let factor = c.scaled.ensures.value j below in
    cc (residue, product, prepared, factor))
