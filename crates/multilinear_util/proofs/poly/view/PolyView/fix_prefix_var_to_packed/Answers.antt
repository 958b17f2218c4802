use Rattle.std.proofs.Common.{◌≡◌, ◌<◌, ◌/◌, ◌∙◌, ap, sym, subst, length, map, arith}
use Rattle.std.proofs.lemmas.List.{length-map}
use Rattle.mlu_ring.specs.Tables.{line}
use Rattle.mlu_ring.proofs.Univariate.{length-front}
use Rattle.mlu_ring.proofs.Logical.{length-logical}
use Rattle.multilinear_util.proofs.Lengths.{power-mod-width, power_of_groups, power_of_half, width_within_half}
use Rattle.multilinear_util.proofs.poly.view.PolyView.fix_prefix_var_to_packed.Goals as goal

pub fold_prefix_to_packed-requires : goal.fold_prefix_to_packed-requires
fold_prefix_to_packed-requires g c =
    let n = length c.as_slice.result.now in
    let packing = g.met.F.Packing.PackedValue in
    let width = g.F.Packing.PackedValue.WIDTH in
    let less : width < n = subst (λ l. width < length l) (sym c.as_slice.ensures.value) c.requires in
    let within = width_within_half n width g.F.Packing.PackedValue.LOG_WIDTH c.as_slice.type_inv.0 c.as_slice.ensures.power packing.width_is less in
    let half = power_of_half n (n / 2) c.as_slice.type_inv.0 c.as_slice.ensures.power within.0 (λ _. n / 2) in
    power-mod-width (n / 2) width g.F.Packing.PackedValue.LOG_WIDTH (omega (arith, c.as_slice.type_inv.0)) half packing.width_is within.1

pub new-requires : goal.new-requires
new-requires g c =
    let entries = c.as_slice.result.now in
    let n = length entries in
    let packing = g.met.F.Packing.PackedValue in
    let width = g.F.Packing.PackedValue.WIDTH in
    let less : width < n = subst (λ l. width < length l) (sym c.as_slice.ensures.value) c.requires in
    let within = width_within_half n width g.F.Packing.PackedValue.LOG_WIDTH c.as_slice.type_inv.0 c.as_slice.ensures.power packing.width_is less in
    let half = power_of_half n (n / 2) c.as_slice.type_inv.0 c.as_slice.ensures.power within.0 (λ _. n / 2) in
    let many : length (map g.EF.Algebra.embed entries) / 2 ≡ n / 2 = ap (λ m. m / 2) (length-map entries g.EF.Algebra.embed) in
    let folded = c.in_ok-fold_prefix_to_packed.field-0.items in
    let lanes = g.EF.ExtensionPacking.PackedFieldExtension.ext_lanes in
    let long = g.met.EF.ExtensionPacking.PackedFieldExtension.lanes_are.length-parts in
    let rows = sym (length-logical lanes width long folded) ∙ ap length c.in_ok-fold_prefix_to_packed.ensures.folded ∙ length-front g.EF.Additive.ring (line g.EF.Additive.ring c.args.r) (map g.EF.Algebra.embed entries) (n / 2) many in
    power_of_groups (n / 2) width g.F.Packing.PackedValue.LOG_WIDTH (omega (arith, c.as_slice.type_inv.0)) half packing.width_is within.1 (length folded) rows
