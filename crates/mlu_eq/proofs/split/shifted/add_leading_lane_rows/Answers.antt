use Rattle.std.proofs.Common.{◌≡◌, ◌-◌, ◌*◌, ◌<◌, ◌≤◌, ◌∙◌, rules, map, length, take, drop, ap, sym, subst, arith, refl}
use Rattle.std.proofs.lemmas.Nat.{pow_pos}
use Rattle.std.proofs.lemmas.List.{take-map, drop-map, length-take-le}
use Rattle.std.proofs.Math.Nat.{mul_assoc}
use Rattle.mlu_ring.specs.Lanes.{logical}
use Rattle.mlu_kernel.specs.Kernels.{plus_rows}
use Rattle.mlu_ring.proofs.LaneProducts.{lanes-product_splat}
use Rattle.mlu_kernel.proofs.PlusRows.{length-plus_rows}
use Rattle.mlu_eq.proofs.Borders.{rows_but_last, groups_within, plus_rows-leading}
use Rattle.mlu_eq.proofs.Lengths.{last_place}
use Rattle.mlu_eq.proofs.split.shifted.add_leading_lane_rows.Goals as goal

pub overflow_mul-groups : goal.overflow_mul-groups
overflow_mul-groups g c =
    let n = g.F.Packing.PackedValue.WIDTH in
    let i = length c.args.weights.now - 1 in
    let o = length c.args.out.now in
    let wide : 0 < n = subst (λ w. 0 < w) (sym g.met.F.Packing.PackedValue.width_is) (pow_pos g.F.Packing.PackedValue.LOG_WIDTH) in
    let parts = rows_but_last (length c.args.weights.now) n o (length c.args.rows.now) c.requires.some wide c.requires.size in
    let room = groups_within (i * n) o (length c.args.rows.now) ((n - 1) * o) c.requires.places parts in
    let same = ap (λ w. i * w) c.WIDTH.ensures in
    let fits : i * c.WIDTH.result ≤ length c.args.rows.now = omega (arith, room, same) in
    search rules

pub overflow_mul-groups-2 : goal.overflow_mul-groups-2
overflow_mul-groups-2 g c =
    let n = g.F.Packing.PackedValue.WIDTH in
    let i = length c.args.weights.now - 1 in
    let o = length c.args.out.now in
    let wide : 0 < n = subst (λ w. 0 < w) (sym g.met.F.Packing.PackedValue.width_is) (pow_pos g.F.Packing.PackedValue.LOG_WIDTH) in
    let parts = rows_but_last (length c.args.weights.now) n o (length c.args.rows.now) c.requires.some wide c.requires.size in
    let same = ap (λ w. i * w * o) c.WIDTH.ensures in
    let fits : i * c.WIDTH.result * o ≤ length c.args.rows.now = omega (arith, parts, same) in
    search rules

pub split_at-requires : goal.split_at-requires
split_at-requires g c =
    let n = g.F.Packing.PackedValue.WIDTH in
    let i = length c.args.weights.now - 1 in
    let o = length c.args.out.now in
    let wide : 0 < n = subst (λ w. 0 < w) (sym g.met.F.Packing.PackedValue.width_is) (pow_pos g.F.Packing.PackedValue.LOG_WIDTH) in
    let parts = rows_but_last (length c.args.weights.now) n o (length c.args.rows.now) c.requires.some wide c.requires.size in
    let same = ap (λ w. i * w * o) c.WIDTH.ensures in
    omega (arith, parts, same)

pub add_lane_rows-requires : goal.add_lane_rows-requires
add_lane_rows-requires g c =
    let n = g.F.Packing.PackedValue.WIDTH in
    let i = length c.args.weights.now - 1 in
    let o = length c.args.out.now in
    c.split_at.ensures.front_len
    ∙ ap (λ w. i * w * o) c.WIDTH.ensures
    ∙ mul_assoc i n o
    ∙ ap (λ k. k * (n * o)) (sym (length-take-le i c.args.weights.now (omega arith)))

pub add_first_lane_rows-requires : goal.add_first_lane_rows-requires
add_first_lane_rows-requires g c =
    let n = g.F.Packing.PackedValue.WIDTH in
    let i = length c.args.weights.now - 1 in
    let o = length c.args.out.now in
    let wide : 0 < n = subst (λ w. 0 < w) (sym g.met.F.Packing.PackedValue.width_is) (pow_pos g.F.Packing.PackedValue.LOG_WIDTH) in
    let parts = rows_but_last (length c.args.weights.now) n o (length c.args.rows.now) c.requires.some wide c.requires.size in
    let same = ap (λ w. i * w * o) c.WIDTH.ensures in
    let rest : length c.split_at.result.1.now ≡ (n - 1) * o = omega (arith, c.split_at.ensures.back_len, parts, same) in
    rest ∙ ap (λ k. (n - 1) * k) (sym (ap length c.add_lane_rows.ensures ∙ length-plus_rows g.EF.Additive.ring g.met.EF.Additive.laws c.args.out.now _ _))

pub returns : goal.returns
returns g c =
    let ring = g.EF.Additive.ring in
    let embed = g.EF.Algebra.embed in
    let ext = g.EF.ExtensionPacking.PackedFieldExtension in
    let met = g.met.EF.ExtensionPacking.PackedFieldExtension in
    let lanes = ext.ext_lanes in
    let factor = c.args.factor in
    let n = g.F.Packing.PackedValue.WIDTH in
    let ps = c.args.weights.now in
    let i = length ps - 1 in
    let o = length c.args.out.now in
    let e = map embed c.args.rows.now in
    let x = c.index-weights-groups.result in
    let wide : 0 < n = subst (λ w. 0 < w) (sym g.met.F.Packing.PackedValue.width_is) (pow_pos g.F.Packing.PackedValue.LOG_WIDTH) in
    let start = ap (λ w. i * w * o) c.WIDTH.ensures in
    let whole = ap (map embed) c.split_at.ensures.front ∙ sym (take-map embed (i * c.WIDTH.result * o) c.args.rows.now) ∙ ap (λ m. take m e) start in
    let rest = ap (map embed) c.split_at.ensures.back ∙ sym (drop-map embed (i * c.WIDTH.result * o) c.args.rows.now) ∙ ap (λ m. drop m e) start in
    let scaled = ap lanes c.scale.ensures
    ∙ lanes-product_splat g.EF.ExtensionPacking.Additive.ring ring g.met.EF.Additive.laws lanes ext.of_ext_lanes n met.lanes_are met.lane_by_lane x (g.EF.ExtensionPacking.Algebra-1.embed factor) factor (met.embeds_element factor) in
    c.add_first_lane_rows.ensures
    ∙ plus_rows-leading ring g.met.EF.Additive.laws lanes n met.lanes_are.length-parts ps c.args.out.now e c.add_lane_rows.new.out (map embed c.split_at.result.0.now) (map embed c.split_at.result.1.now) (lanes c.scale.result) i (n - 1) o x factor
    (omega (arith, c.requires.some)) c.index-weights-groups.is refl (omega arith) scaled whole rest c.add_lane_rows.ensures
    ∙ ap (λ m. plus_rows ring c.args.out.now (map (ring.product factor) (take m (logical lanes ps))) e) (last_place (length ps) n c.requires.some wide)
