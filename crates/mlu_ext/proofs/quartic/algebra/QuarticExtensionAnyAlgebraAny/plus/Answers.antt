-- The sum has b in the first coefficient alone.
use Rattle.std.proofs.Common.{sym, refl, ◌∙◌}
use Rattle.mlu_ext.specs.QuarticLaws.{quartic_same}
use Rattle.mlu_ext.proofs.QuarticSums.{sum-constant}
use Rattle.mlu_ext.proofs.quartic.algebra.QuarticExtensionAnyAlgebraAny.plus.Goals as goal

pub returns : goal.returns
returns g c =
    c.new.ensures ∙ quartic_same (g.met.R.Additive.adds _ _ _ c.add.ensures) refl refl refl
    ∙ sym (sum-constant g.R.Additive.ring g.met.R.Additive.laws c.args.self c.args.b)
