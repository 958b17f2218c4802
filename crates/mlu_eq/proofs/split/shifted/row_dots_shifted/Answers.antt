use Rattle.std.proofs.Common.{◌≡◌, ◌<◌, ◌-◌, ◌*◌, ◌∙◌, length, map, get_or, ap, sym, subst, arith}
use Rattle.std.proofs.lemmas.Nat.{pow_pos}
use Rattle.std.proofs.lemmas.List.{length-map}
use Rattle.mlu_ring.specs.Lanes.{logical}
use Rattle.mlu_ring.specs.Successor.{shifted}
use Rattle.mlu_ring.proofs.Logical.{length-logical, get_or-logical}
use Rattle.mlu_eq.proofs.Compressions.{back_of_nothing}
use Rattle.mlu_eq.proofs.Lengths.{last_place}
use Rattle.mlu_eq.proofs.RowsShifted.{rows_and_last, back-read_on}
use Rattle.mlu_eq.proofs.split.shifted.row_dots_shifted.Goals as goal

pub returns-in_default : goal.returns-in_default
returns-in_default g c =
    let ring = g.EF.Additive.ring in
    let size = length c.args.weights.now * g.F.Packing.PackedValue.WIDTH in
    let none : 0 * (length c.args.weights.now * g.F.Packing.PackedValue.WIDTH) ≡ 0 = omega arith in
    back_of_nothing ring g.met.EF.Additive.laws (shifted ring (logical g.EF.ExtensionPacking.PackedFieldExtension.ext_lanes c.args.weights.now)) (map g.EF.Algebra.embed c.args.entries.now) c.args.out.now
    c.in_default.ensures.cases
    (length-map c.args.entries.now g.EF.Algebra.embed ∙ c.requires.size ∙ ap (λ k. k * size) c.in_default.ensures.cases ∙ none)

pub split_at-requires : goal.split_at-requires
split_at-requires g c =
    let wide : 0 < g.F.Packing.PackedValue.WIDTH = subst (λ w. 0 < w) (sym g.met.F.Packing.PackedValue.width_is) (pow_pos g.F.Packing.PackedValue.LOG_WIDTH) in
    let parts = rows_and_last (length c.args.entries.now) (length c.args.out.now) (length c.in-Some.full.now) (length c.args.weights.now) g.F.Packing.PackedValue.WIDTH c.WIDTH.result c.requires.some wide c.WIDTH.ensures c.in-Some.ensures.cases.1 c.requires.size in
    omega (arith, parts.0, parts.1)

pub subtract_borders-requires-clause-some : goal.subtract_borders-requires-clause-some
subtract_borders-requires-clause-some g c =
    let wide : 0 < g.F.Packing.PackedValue.WIDTH = subst (λ w. 0 < w) (sym g.met.F.Packing.PackedValue.width_is) (pow_pos g.F.Packing.PackedValue.LOG_WIDTH) in
    let parts = rows_and_last (length c.args.entries.now) (length c.args.out.now) (length c.in-Some.full.now) (length c.args.weights.now) g.F.Packing.PackedValue.WIDTH c.WIDTH.result c.requires.some wide c.WIDTH.ensures c.in-Some.ensures.cases.1 c.requires.size in
    parts.0

pub returns : goal.returns
returns g c =
    let ring = g.EF.Additive.ring in
    let lanes = g.EF.ExtensionPacking.PackedFieldExtension.ext_lanes in
    let long = g.met.EF.ExtensionPacking.PackedFieldExtension.lanes_are.length-parts in
    let n = g.F.Packing.PackedValue.WIDTH in
    let ps = c.args.weights.now in
    let p = length ps in
    let w = logical lanes ps in
    let es = c.args.entries.now in
    let f = length c.in-Some.full.now in
    let v = length c.args.weights.now * c.WIDTH.result in
    let wide : 0 < n = subst (λ k. 0 < k) (sym g.met.F.Packing.PackedValue.width_is) (pow_pos g.F.Packing.PackedValue.LOG_WIDTH) in
    let parts = rows_and_last (length es) (length c.args.out.now) f p n c.WIDTH.result c.requires.some wide c.WIDTH.ensures c.in-Some.ensures.cases.1 c.requires.size in
    let many = length-logical lanes n long ps in
    let is = ap (λ k. p * k) c.WIDTH.ensures ∙ sym many in
    let x = c.ext_lane-last_weight.result in
    let group = c.index-weights-weights.result in
    let at_last = c.ext_lane-last_weight.ensures x
    ∙ ap (λ k. get_or (lanes group) (k - 1) x) c.WIDTH-2.ensures
    ∙ ap (λ q. get_or (lanes q) (n - 1) x) c.index-weights-weights.is
    ∙ sym (get_or-logical lanes n long ps (p - 1) (n - 1) group x (omega (arith, c.requires.some)) (omega (arith, wide)))
    ∙ ap (λ k. get_or w k x) (last_place p n c.requires.some wide ∙ ap (λ k. k - 1) (sym many)) in
    back-read_on ring g.met.EF.Additive.laws g.EF.Algebra.embed es c.split_at.result.0.now c.split_at.result.1.now w c.row_dots.new.out c.subtract_borders.new.out f v x c.leading_lanes_dot.result
    (subst (λ k. 0 < k) is parts.0) is parts.1 at_last c.split_at.ensures.front c.row_dots.ensures (c.subtract_borders.auto.out ∙ c.row_dots.auto.out)
    (λ y h. c.subtract_borders.ensures y (omega (arith, h, c.row_dots.auto.out)))
    c.split_at.ensures.back c.leading_lanes_dot.ensures
