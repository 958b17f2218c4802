use Rattle.std.proofs.Common.{◌≡◌, ◌+◌, ◌*◌, ◌/◌, ◌∙◌, length, get_or, refl, ap, arith}
use Rattle.std.proofs.lemmas.List.{get_or_default}
use Rattle.mlu_eq.specs.Combine.{interpolated}
use Rattle.mlu_eq.proofs.Folds.{back_filled}
use Rattle.mlu_eq.proofs.suffix.fold_suffix_by_base.Goals as goal

pub returns : goal.returns
returns g c =
    let ring = g.F.Additive.ring in
    let r = g.F.Algebra.embed c.args.r in
    let entries = c.args.entries.now in
    let folded = c.loop-i.folded.items in
    let end : c.loop-i.i ≡ length entries / 2 = omega arith in
    let long = c.loop-i.invariant.size ∙ end in
    record {
      folded = back_filled ring g.met.F.Additive.laws (ring.minus ring.one r) r entries folded (length entries / 2) refl long
          (λ k d h.
          get_or_default folded k d ring.zero (omega (arith, long))
          ∙ c.loop-i.invariant.done k (omega (arith, end))
          ∙ ap (λ a. interpolated ring r a (get_or entries (2 * k + 1) ring.zero)) (get_or_default entries (2 * k) ring.zero d (omega arith))
          ∙ ap (interpolated ring r (get_or entries (2 * k) d)) (get_or_default entries (2 * k + 1) ring.zero d (omega arith)));
      exact = c.loop-i.invariant.capacity;
      few = λ h. refl;
    }
