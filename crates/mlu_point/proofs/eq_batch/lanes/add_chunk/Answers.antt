use Rattle.std.proofs.Common.{◌≡◌, ◌+◌, ◌-◌, ◌*◌, ◌/◌, ◌^◌, length, map, ap, sym, ◌∙◌, arith}
use Rattle.std.proofs.lemmas.Nat.{pow-add}
use Rattle.mlu_ring.specs.Lanes.{logical}
use Rattle.mlu_ring.specs.Matrices.{batch, left_by}
use Rattle.mlu_point.specs.Batches.{pair_image, pair_lanes, pair_ring, pairs}
use Rattle.mlu_point.proofs.Pairs.{pair_laws, pair_long, pair_lane_by_lane, lanes-twice, lanes-four, length-fours}
use Rattle.mlu_point.proofs.PackedChunks.{chunk-sizes, chunk-batch}
use Rattle.mlu_point.proofs.eq_batch.lanes.add_chunk.Goals as goal

pub pack_shares-requires-clause-size : goal.pack_shares-requires-clause-size
pack_shares-requires-clause-size g c =
    let log = g.F.Packing.PackedValue.LOG_WIDTH + 2 in
    let is_rows : c.height.result - (c.LOG_WIDTH-left.result + 2) ≡ c.height.result - (g.F.Packing.PackedValue.LOG_WIDTH + 2) = ap (λ n. c.height.result - (n + 2)) c.LOG_WIDTH-left.ensures in
    let sizes = chunk-sizes c.args.evals.values.now c.split_rows.result.0.values.now c.split_rows.result.1.values.now _ (length c.args.scalars.now) _ _ log c.requires.some c.requires.width c.args.evals.rows c.height.ensures c.requires.variables is_rows c.split_rows.ensures.first c.split_rows.ensures.rest in
    let power : 2 ^ (g.F.Packing.PackedValue.LOG_WIDTH + 2) ≡ 4 * 2 ^ g.F.Packing.PackedValue.LOG_WIDTH = omega (arith, pow-add 2 g.F.Packing.PackedValue.LOG_WIDTH 2) in
    ap (λ n. 2 ^ n) sizes.4 ∙ power ∙ ap (λ n. 4 * n) (sym g.met.F.Packing.PackedValue.width_is)

pub add_groups-requires-clause-space : goal.add_groups-requires-clause-space
add_groups-requires-clause-space g c =
    let log = g.F.Packing.PackedValue.LOG_WIDTH + 2 in
    let is_rows : c.height.result - (c.LOG_WIDTH-left.result + 2) ≡ c.height.result - (g.F.Packing.PackedValue.LOG_WIDTH + 2) = ap (λ n. c.height.result - (n + 2)) c.LOG_WIDTH-left.ensures in
    let sizes = chunk-sizes c.args.evals.values.now c.split_rows.result.0.values.now c.split_rows.result.1.values.now _ (length c.args.scalars.now) _ _ log c.requires.some c.requires.width c.args.evals.rows c.height.ensures c.requires.variables is_rows c.split_rows.ensures.first c.split_rows.ensures.rest in
    let rows = length c.args.evals.values.now / length c.args.scalars.now - (g.F.Packing.PackedValue.LOG_WIDTH + 2) in
    let same : rows ≡ c.height.result - (c.LOG_WIDTH-left.result + 2) = omega (arith, sizes.2) in
    let left : length c.split_at_mut-shares.result.1.now ≡ 4 * (rows * length c.args.scalars.now) = omega (arith, c.requires.packed, c.split_at_mut-shares.ensures.back_len) in
    left ∙ ap (λ n. 4 * n) (ap (λ n. n * length c.args.scalars.now) same ∙ sym sizes.0)

pub add_groups-requires-clause-size : goal.add_groups-requires-clause-size
add_groups-requires-clause-size g c =
    let packing = g.F.Packing.PackedValue in
    let log = g.F.Packing.PackedValue.LOG_WIDTH + 2 in
    let is_rows : c.height.result - (c.LOG_WIDTH-left.result + 2) ≡ c.height.result - (g.F.Packing.PackedValue.LOG_WIDTH + 2) = ap (λ n. c.height.result - (n + 2)) c.LOG_WIDTH-left.ensures in
    let sizes = chunk-sizes c.args.evals.values.now c.split_rows.result.0.values.now c.split_rows.result.1.values.now _ (length c.args.scalars.now) _ _ log c.requires.some c.requires.width c.args.evals.rows c.height.ensures c.requires.variables is_rows c.split_rows.ensures.first c.split_rows.ensures.rest in
    let rows = c.height.result - (c.LOG_WIDTH-left.result + 2) in
    let power : 2 ^ (g.F.Packing.PackedValue.LOG_WIDTH + 2) ≡ 4 * 2 ^ g.F.Packing.PackedValue.LOG_WIDTH = omega (arith, pow-add 2 g.F.Packing.PackedValue.LOG_WIDTH 2) in
    let width = c.split_rows.ensures.first_width ∙ c.requires.width in
    c.requires.size
    ∙ ap (λ n. 2 ^ n) (sym sizes.2)
    ∙ pow-add 2 rows log
    ∙ ap (λ k. 2 ^ rows * k) (power ∙ ap (λ n. 4 * n) (sym g.met.F.Packing.PackedValue.width_is))
    ∙ ap (λ n. 2 ^ n * (4 * packing.WIDTH)) (sym (ap (λ n. length c.split_rows.result.0.values.now / n) width ∙ sizes.3))

pub returns : goal.returns
returns g c =
    let packing = g.EF.ExtensionPacking in
    let met = g.met.EF.ExtensionPacking in
    let lanes = packing.PackedFieldExtension.ext_lanes in
    let packed = packing.Additive.ring in
    let ring = g.EF.Additive.ring in
    let width = g.F.Packing.PackedValue.WIDTH in
    let log = g.F.Packing.PackedValue.LOG_WIDTH + 2 in
    let long = met.PackedFieldExtension.lanes_are.length-parts in
    let long_two = pair_long width lanes packed ring long in
    let two = pair_ring packed in
    let two_lanes = pair_lanes lanes in
    let image = g.E.PackedEvaluator.packed_image in
    let middle = c.split_rows.result.0.values.now in
    let scalars = c.args.scalars.now in
    let is_rows : c.height.result - (c.LOG_WIDTH-left.result + 2) ≡ c.height.result - (g.F.Packing.PackedValue.LOG_WIDTH + 2) = ap (λ n. c.height.result - (n + 2)) c.LOG_WIDTH-left.ensures in
    let size : length c.pack_shares.new.shares ≡ 4 * length c.args.scalars.now = omega (arith, c.pack_shares.auto.shares, c.split_at_mut-shares.ensures.front_len) in
    let many = length-fours c.pack_shares.new.shares (length scalars) size in
    let same = sym (c.split_rows.ensures.first_width ∙ c.requires.width) in
    let power : 2 * (2 * g.F.Packing.PackedValue.WIDTH) ≡ 2 ^ (g.F.Packing.PackedValue.LOG_WIDTH + 2) = omega (arith, pow-add 2 g.F.Packing.PackedValue.LOG_WIDTH 2, g.met.F.Packing.PackedValue.width_is) in
    chunk-batch (2 * (2 * width)) (pair_lanes two_lanes) (pair_ring two) ring (pair_laws two (pair_laws packed met.Additive.laws)) g.met.EF.Additive.laws
    (pair_long (2 * width) two_lanes two ring long_two) (pair_lane_by_lane (2 * width) two_lanes two ring long_two (pair_lane_by_lane width lanes packed ring long met.PackedFieldExtension.lane_by_lane))
    g.E.EqualityEvaluator.image (pair_image (pair_image image))
    (λ x. lanes-twice (2 * width) two_lanes two ring long_two (g.E.EqualityEvaluator.image x) (image x, image x) (lanes-twice width lanes packed ring long (g.E.EqualityEvaluator.image x) (image x) (g.met.E.PackedEvaluator.in_every_lane x)))
    _ c.args.evals.values.now middle c.split_rows.result.1.values.now (pairs (pairs c.pack_shares.new.shares)) scalars c.args.out.now c.add_groups.new.out
    _ _ _ log c.requires.some c.requires.width c.args.evals.rows c.height.ensures c.requires.variables is_rows c.split_rows.ensures.first c.split_rows.ensures.rest many power
    (λ i h. lanes-four lanes c.pack_shares.new.shares (length scalars) i _ size h ∙ c.pack_shares.ensures i h) c.requires.size
    (c.add_groups.ensures
    ∙ ap (λ n. left_by ring _ c.args.out.now (logical (pair_lanes two_lanes) (batch (pair_ring two) (map (pair_image (pair_image image)) middle) (pairs (pairs c.pack_shares.new.shares)) (2 ^ (length middle / n))))) (sym same ∙ sym many))
