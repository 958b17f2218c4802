use Rattle.std.proofs.Common.{◌≡◌, ◌*◌, ◌/◌, ◌^◌, ◌<◌, length, map, refl, ap, sym, ◌∙◌, arith, rules}
use Rattle.mlu_ring.specs.Lanes.{logical}
use Rattle.mlu_ring.specs.Matrices.{batch, left_by}
use Rattle.mlu_point.specs.Batches.{pair_image, pair_lanes, pair_ring, pairs}
use Rattle.mlu_point.proofs.Sizes.{group-sizes}
use Rattle.mlu_point.proofs.Pairs.{pair_laws, pair_long, length-fours}
use Rattle.mlu_point.proofs.PackedChunks.{halves-groups, group-none}
use Rattle.mlu_point.proofs.eq_batch.lanes.+add_groups.Goals as goal

pub returns-then-height-eq0 : goal.returns-then-height-eq0
returns-then-height-eq0 g t c =
    let packing = g.EF.ExtensionPacking in
    let lanes = packing.PackedFieldExtension.ext_lanes in
    let ring = packing.Additive.ring in
    let width = g.F.Packing.PackedValue.WIDTH in
    let long = g.met.EF.ExtensionPacking.PackedFieldExtension.lanes_are.length-parts in
    let vs = c.args.evals.values.now in
    let shares = pairs (pairs c.args.shares.now) in
    let many = length-fours c.args.shares.now c.args.evals.width c.requires.shares in
    group-none (2 * (2 * width)) (pair_lanes (pair_lanes lanes)) (pair_ring (pair_ring ring)) g.EF.Additive.ring (pair_laws (pair_ring ring) (pair_laws ring g.met.EF.ExtensionPacking.Additive.laws))
    (pair_long (2 * width) (pair_lanes lanes) (pair_ring ring) g.EF.Additive.ring (pair_long width lanes ring g.EF.Additive.ring long)) (pair_image (pair_image g.E.EqualityEvaluator.image))
    _ vs shares c.args.out.now c.write_or_add_four.new.out _ _ _ (sym many) c.height.ensures c.if-height-eq0.true c.sum_of_fours.ensures c.write_or_add_four.ensures
    ∙ ap (λ n. left_by g.EF.Additive.ring _ c.args.out.now (logical (pair_lanes (pair_lanes lanes)) (batch (pair_ring (pair_ring ring)) (map (pair_image (pair_image g.E.EqualityEvaluator.image)) vs) shares (2 ^ (length vs / n))))) many

pub add_groups-requires : goal.add_groups-requires
add_groups-requires g t c =
    let others = c.split_rows.result.1.values.now in
    let shares = c.split_fours.new.high in
    let sizes = group-sizes c.args.evals.values.now others c.args.out.now _ _ _ c.args.evals.width _ (4 * g.F.Packing.PackedValue.WIDTH) c.requires.some refl c.args.evals.rows c.height.ensures c.if-height-eq0.false c.split_rows.ensures.rest c.requires.size c.split_at_mut-low.ensures.front c.split_at_mut-low.ensures.back in
    let shorter : length others < length c.args.evals.values.now = sizes.0 in
    let room : length c.split_at_mut-high_shares.result.1.now ≡ 4 * length others = omega (arith, sizes.1, c.requires.space, c.requires.shares, c.split_at_mut-high_shares.ensures.back_len) in
    let width : c.split_rows.result.1.width ≡ c.args.evals.width = c.split_rows.ensures.rest_width in
    let long : length shares ≡ 4 * c.split_rows.result.1.width = omega (arith, c.split_fours.auto.high, c.split_at_mut-high_shares.ensures.front_len, c.requires.shares, width) in
    let some : 0 < c.split_rows.result.1.width = omega (arith, width, c.requires.some) in
    let size : length c.split_at_mut-low.result.1.now ≡ 2 ^ (length others / c.split_rows.result.1.width) * (4 * g.F.Packing.PackedValue.WIDTH) = sizes.3 ∙ ap (λ n. 2 ^ (length others / n) * (4 * g.F.Packing.PackedValue.WIDTH)) (sym width) in
    search rules

pub add_groups-requires-2 : goal.add_groups-requires-2
add_groups-requires-2 g t c =
    let others = c.split_rows.result.1.values.now in
    let shares = c.split_fours.new.low in
    let sizes = group-sizes c.args.evals.values.now others c.args.out.now _ _ _ c.args.evals.width _ (4 * g.F.Packing.PackedValue.WIDTH) c.requires.some refl c.args.evals.rows c.height.ensures c.if-height-eq0.false c.split_rows.ensures.rest c.requires.size c.split_at_mut-low.ensures.front c.split_at_mut-low.ensures.back in
    let shorter : length others < length c.args.evals.values.now = sizes.0 in
    let room : length c.split_at_mut-high_shares.result.1.now ≡ 4 * length others = omega (arith, sizes.1, c.requires.space, c.requires.shares, c.split_at_mut-high_shares.ensures.back_len) in
    let width : c.split_rows.result.1.width ≡ c.args.evals.width = c.split_rows.ensures.rest_width in
    let long : length shares ≡ 4 * c.split_rows.result.1.width = omega (arith, c.split_fours.auto.low, c.requires.shares, width) in
    let some : 0 < c.split_rows.result.1.width = omega (arith, width, c.requires.some) in
    let size : length c.split_at_mut-low.result.0.now ≡ 2 ^ (length others / c.split_rows.result.1.width) * (4 * g.F.Packing.PackedValue.WIDTH) = sizes.2 ∙ ap (λ n. 2 ^ (length others / n) * (4 * g.F.Packing.PackedValue.WIDTH)) (sym width) in
    let space_left : length c.add_groups.new.space ≡ 4 * length others = c.add_groups.auto.space ∙ room in
    search rules

pub returns : goal.returns
returns g t c =
    let packing = g.EF.ExtensionPacking in
    let lanes = packing.PackedFieldExtension.ext_lanes in
    let ring = packing.Additive.ring in
    let width = g.F.Packing.PackedValue.WIDTH in
    let long = g.met.EF.ExtensionPacking.PackedFieldExtension.lanes_are.length-parts in
    let image = pair_image (pair_image g.E.EqualityEvaluator.image) in
    let four = pair_ring (pair_ring ring) in
    let four_lanes = pair_lanes (pair_lanes lanes) in
    let vs = c.args.evals.values.now in
    let others = c.split_rows.result.1.values.now in
    let w = c.args.evals.width in
    let shares = pairs (pairs c.args.shares.now) in
    let low = pairs (pairs c.split_fours.new.low) in
    let high = pairs (pairs c.split_fours.new.high) in
    let low_is : length c.split_fours.new.low ≡ 4 * c.args.evals.width = omega (arith, c.split_fours.auto.low, c.requires.shares) in
    let high_is : length c.split_fours.new.high ≡ 4 * c.args.evals.width = omega (arith, c.split_fours.auto.high, c.split_at_mut-high_shares.ensures.front_len, c.requires.shares) in
    let many = length-fours c.args.shares.now w c.requires.shares in
    let many_low = length-fours c.split_fours.new.low w low_is in
    let many_high = length-fours c.split_fours.new.high w high_is in
    let some : 0 < length (pairs (pairs c.args.shares.now)) = omega (arith, many, c.requires.some) in
    let group : 4 * g.F.Packing.PackedValue.WIDTH ≡ 2 * (2 * g.F.Packing.PackedValue.WIDTH) = omega arith in
    halves-groups (2 * (2 * width)) four_lanes four g.EF.Additive.ring (pair_laws (pair_ring ring) (pair_laws ring g.met.EF.ExtensionPacking.Additive.laws))
    (pair_long (2 * width) (pair_lanes lanes) (pair_ring ring) g.EF.Additive.ring (pair_long width lanes ring g.EF.Additive.ring long)) image
    _ vs c.split_rows.result.0.values.now others shares low high c.args.out.now
    c.split_at_mut-low.result.0.now c.split_at_mut-low.result.1.now c.add_groups-2.new.out c.add_groups.new.out w _
    some (sym many) c.args.evals.rows c.height.ensures c.if-height-eq0.false c.split_rows.ensures.first c.split_rows.ensures.rest (many_low ∙ sym many) (many_high ∙ sym many) c.split_fours.ensures.lower c.split_fours.ensures.upper
    (c.requires.size ∙ ap (λ k. 2 ^ (length vs / w) * k) group ∙ ap (λ n. 2 ^ (length vs / n) * (2 * (2 * width))) (sym many))
    c.split_at_mut-low.ensures.front c.split_at_mut-low.ensures.back
    (c.add_groups-2.ensures ∙ ap (λ n. left_by g.EF.Additive.ring _ c.split_at_mut-low.result.0.now (logical four_lanes (batch four (map image others) low (2 ^ (length others / n))))) (c.split_rows.ensures.rest_width ∙ sym many_low))
    (c.add_groups.ensures ∙ ap (λ n. left_by g.EF.Additive.ring _ c.split_at_mut-low.result.1.now (logical four_lanes (batch four (map image others) high (2 ^ (length others / n))))) (c.split_rows.ensures.rest_width ∙ sym many_high))
    ∙ ap (λ n. left_by g.EF.Additive.ring _ c.args.out.now (logical four_lanes (batch four (map image vs) shares (2 ^ (length vs / n))))) many
