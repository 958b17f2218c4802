-- Each coefficient of the product is a sum of four products.
use Rattle.mlu_ext.proofs.QuarticSums.{product-rows}
use Rattle.mlu_ext.proofs.quartic.ring.QuarticExtensionPrimeCharacteristicRing.times_fixed.Goals as goal

pub returns : goal.returns
returns g c =
    product-rows g.R.Additive.ring g.met.R.Additive.laws c.args.self c.args.factor _ _ _ _ _ _ _ c.wrapped.ensures.linear c.wrapped.ensures.quadratic c.wrapped.ensures.cubic
    (c.row_times_fixed_columns-product.ensures.first) (c.row_times_fixed_columns-product.ensures.second)
    (c.row_times_fixed_columns-product.ensures.third) (c.row_times_fixed_columns-product.ensures.fourth)
