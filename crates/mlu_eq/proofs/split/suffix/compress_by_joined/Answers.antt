use Rattle.std.proofs.Common.{◌<◌, ◌-◌, ◌*◌, ◌∙◌, length, map, ap, sym, subst, arith}
use Rattle.std.proofs.Math.Nat.{mul_assoc}
use Rattle.mlu_ring.specs.Tables.{back}
use Rattle.mlu_eq.proofs.Lengths.{some_values}
use Rattle.mlu_eq.proofs.Places.{zero_places, length-places}
use Rattle.mlu_eq.proofs.split.suffix.compress_by_joined.Goals as goal

pub join_halves-requires : goal.join_halves-requires
join_halves-requires g c =
    let n = length c.args.eq0.now * length c.args.weights.now in
    let zero = g.EF.ExtensionPacking.Additive.ring.zero in
    zero_places 128 n c.ZERO-places.result c.requires.few zero (c.ZERO-places.ensures ∙ g.met.EF.ExtensionPacking.Additive.zero_is)

pub write_row_dots-requires-clause-some : goal.write_row_dots-requires-clause-some
write_row_dots-requires-clause-some g c =
    let width = g.F.Packing.PackedValue.WIDTH in
    let n = length c.args.eq0.now * length c.args.weights.now in
    let long = c.join_halves.auto.joined ∙ length-places 128 n c.ZERO-places.result c.requires.few in
    let some = subst (λ k. 0 < k) (sym (mul_assoc (length c.args.eq0.now) (length c.args.weights.now) width)) c.requires.some in
    subst (λ k. 0 < k) (sym long) (some_values n width (n * width - 1) (omega (arith, some)))

pub write_row_dots-requires-clause-size : goal.write_row_dots-requires-clause-size
write_row_dots-requires-clause-size g c =
    let m = length c.args.out.now in
    let width = g.F.Packing.PackedValue.WIDTH in
    let n = length c.args.eq0.now * length c.args.weights.now in
    let long = c.join_halves.auto.joined ∙ length-places 128 n c.ZERO-places.result c.requires.few in
    c.requires.size
    ∙ ap (λ k. m * k) (sym (mul_assoc (length c.args.eq0.now) (length c.args.weights.now) width))
    ∙ ap (λ k. m * (k * width)) (sym long)

pub returns : goal.returns
returns g c =
    let ring = g.EF.Additive.ring in
    c.write_row_dots.ensures ∙ ap (λ t. back ring (g.S.SuffixCompression.moved t) (map g.EF.Algebra.embed c.args.entries.now)) c.join_halves.ensures
