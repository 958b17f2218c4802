-- The product of the lanes is that of their ring.
use Rattle.mlu_lanes.proofs.PackedSums.{product_of_residues}
use Rattle.mlu_lanes.proofs.baby_bear.field.BabyBearField.lanes_mul.Goals as goal

pub returns : goal.returns
returns g c =
    product_of_residues c.args.a c.args.b c.product_reduced.result (λ j below.
    let residue = c.product_reduced.ensures j below in
    let product = c.products.ensures.value j below in
    cc (residue, product))
