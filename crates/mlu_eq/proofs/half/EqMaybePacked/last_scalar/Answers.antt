use Rattle.std.proofs.Common.{◌<◌, ◌-◌, ◌∙◌, length, get_or, ap, sym, subst, arith}
use Rattle.std.proofs.lemmas.Nat.{pow_pos}
use Rattle.mlu_ring.specs.Lanes.{logical}
use Rattle.mlu_ring.proofs.Logical.{length-logical, get_or-logical}
use Rattle.mlu_eq.proofs.Halves.{packed_weights}
use Rattle.mlu_eq.proofs.Lengths.{last_place, positive_of_test}
use Rattle.mlu_eq.proofs.half.EqMaybePacked.last_scalar.Goals as goal

pub returns-in-Packed : goal.returns-in-Packed
returns-in-Packed g c =
    let lanes = g.EF.ExtensionPacking.PackedFieldExtension.ext_lanes in
    let n = g.F.Packing.PackedValue.WIDTH in
    let long = g.met.EF.ExtensionPacking.PackedFieldExtension.lanes_are.length-parts in
    let zero = g.EF.Additive.ring.zero in
    let ps = c.as_slice-in-Packed.result.now in
    let last = c.last_of-in-Packed.result in
    let wide : 0 < n = subst (λ k. 0 < k) (sym g.met.F.Packing.PackedValue.width_is) (pow_pos g.F.Packing.PackedValue.LOG_WIDTH) in
    let some = positive_of_test (length ps) c.as_slice-in-Packed.type_inv.0 c.as_slice-in-Packed.ensures.power in
    let lane = c.ext_lane.ensures zero in
    let at = ap (λ w. get_or (lanes last) (w - 1) zero) c.WIDTH.ensures in
    let packed = ap (λ p. get_or (lanes p) (n - 1) zero) c.last_of-in-Packed.ensures in
    let joined = sym (get_or-logical lanes n long ps (length ps - 1) (n - 1) last zero (omega (arith, some)) (omega (arith, wide))) in
    let place = ap (λ k. get_or (logical lanes ps) k zero) (last_place (length ps) n some wide ∙ ap (λ k. k - 1) (sym (length-logical lanes n long ps))) in
    lane ∙ at ∙ packed ∙ joined ∙ place
    ∙ ap (λ ws. get_or ws (length ws - 1) zero) (sym (packed_weights lanes c.args.self.now c.self.inside.weights c.self.view_is c.in-Packed.weights ps c.in-Packed.is c.as_slice-in-Packed.ensures.value))
