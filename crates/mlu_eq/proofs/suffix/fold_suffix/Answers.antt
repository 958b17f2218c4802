use Rattle.std.proofs.Common.{◌≡◌, ◌/◌, ◌∙◌, length, refl, arith}
use Rattle.std.proofs.lemmas.List.{get_or_default}
use Rattle.mlu_eq.proofs.Folds.{back_of_image}
use Rattle.mlu_eq.proofs.suffix.fold_suffix.Goals as goal

pub returns : goal.returns
returns g c =
    let ring = g.EF.Additive.ring in
    let zero = g.F.Additive.ring.zero in
    let folded = c.loop-i.folded.items in
    let end : c.loop-i.i ≡ length c.args.entries.now / 2 = omega arith in
    let long = c.loop-i.invariant.size ∙ end in
    record {
      folded = back_of_image ring g.met.EF.Additive.laws g.EF.Algebra.embed (ring.minus ring.one c.args.r) c.args.r c.args.entries.now folded (length c.args.entries.now / 2) zero refl long
          (λ k d h. get_or_default folded k d ring.zero (omega (arith, long)) ∙ c.loop-i.invariant.done k (omega (arith, end)));
      exact = c.loop-i.invariant.capacity;
      few = λ h. refl;
    }
