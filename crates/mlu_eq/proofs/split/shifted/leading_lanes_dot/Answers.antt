use Rattle.std.proofs.Common.{◌≡◌, ◌+◌, ◌-◌, ◌*◌, ◌/◌, ◌<◌, ◌∙◌, map, length, take, drop, ap, sym, subst, arith}
use Rattle.std.proofs.lemmas.Nat.{pow_pos, div-mul-add}
use Rattle.std.proofs.lemmas.List.{take-map, drop-map}
use Rattle.mlu_ring.specs.Lanes.{logical}
use Rattle.mlu_ring.specs.Tables.{pair}
use Rattle.mlu_eq.proofs.Borders.{lanes_but_last, pair-leading}
use Rattle.mlu_eq.proofs.Lengths.{some_values}
use Rattle.mlu_eq.proofs.split.shifted.leading_lanes_dot.Goals as goal

pub returns : goal.returns
returns g c =
    let ring = g.EF.Additive.ring in
    let embed = g.EF.Algebra.embed in
    let lanes = g.EF.ExtensionPacking.PackedFieldExtension.ext_lanes in
    let n = g.F.Packing.PackedValue.WIDTH in
    let ps = c.args.weights.now in
    let r = length c.args.row.now in
    let e = map embed c.args.row.now in
    let i = r / c.WIDTH.result in
    let k = length c.split_at.result.1.now in
    let wide : 0 < n = subst (λ w. 0 < w) (sym g.met.F.Packing.PackedValue.width_is) (pow_pos g.F.Packing.PackedValue.LOG_WIDTH) in
    let parts = lanes_but_last (length ps) n r wide c.requires in
    let groups = ap (λ w. r / w) c.WIDTH.ensures ∙ ap (λ m. m / n) parts ∙ div-mul-add (length ps - 1) n (n - 1) (omega (arith, wide)) in
    let size : length ps ≡ i + 1 = omega (arith, groups, some_values (length ps) n r c.requires) in
    let start = ap (λ w. i * w) c.WIDTH-2.ensures in
    let whole = ap (map embed) c.split_at.ensures.front ∙ sym (take-map embed (i * c.WIDTH-2.result) c.args.row.now) ∙ ap (λ m. take m e) start in
    let rest = ap (map embed) c.split_at.ensures.back ∙ sym (drop-map embed (i * c.WIDTH-2.result) c.args.row.now) ∙ ap (λ m. drop m e) start in
    let all : i * n + k ≡ r = omega (arith, c.split_at.ensures.back_len, start, parts, groups, ap (λ m. m * n) groups) in
    g.met.EF.Additive.adds c.lane_sum.result c.leading_lane_dot.result c.add.result c.add.ensures
    ∙ ap (λ t. ring.sum t c.leading_lane_dot.result) (c.lane_sum.ensures ∙ c.row_dot_in_lanes-sum.ensures)
    ∙ ap (λ t. ring.sum (pair ring (logical lanes (take i ps)) (map embed c.split_at.result.0.now)) t) c.leading_lane_dot.ensures
    ∙ pair-leading ring g.met.EF.Additive.laws lanes n g.met.EF.ExtensionPacking.PackedFieldExtension.lanes_are.length-parts ps e (map embed c.split_at.result.0.now) (map embed c.split_at.result.1.now) i k c.index-weights-groups.result size c.index-weights-groups.is whole rest
    ∙ ap (λ m. pair ring (take m (logical lanes ps)) e) all
