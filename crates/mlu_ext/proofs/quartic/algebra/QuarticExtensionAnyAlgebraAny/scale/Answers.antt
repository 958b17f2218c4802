-- The product has each coefficient times b.
use Rattle.std.proofs.Common.{sym, ◌∙◌}
use Rattle.mlu_ext.specs.QuarticLaws.{quartic_same}
use Rattle.mlu_ext.specs.QuarticMaps.{product-constant}
use Rattle.mlu_ext.proofs.quartic.algebra.QuarticExtensionAnyAlgebraAny.scale.Goals as goal

pub returns : goal.returns
returns g c =
    let multiplies = g.met.R.PrimeCharacteristicRing.multiplies in
    c.new.ensures
    ∙ quartic_same (multiplies _ _ _ c.mul.ensures) (multiplies _ _ _ c.mul-2.ensures) (multiplies _ _ _ c.mul-3.ensures) (multiplies _ _ _ c.mul-4.ensures)
    ∙ sym (product-constant g.R.Additive.ring g.met.R.Additive.laws c.args.self c.args.b)
