use Rattle.std.proofs.Common.{◌≡◌, refl, ◌+◌, ◌*◌, ◌/◌, ◌^◌, ◌<◌, ◌≤◌, length, ap, sym, subst, ◌∙◌, arith, rules}
use Rattle.mlu_point.proofs.Sizes.{split-sizes, rows-left, room-kept}
use Rattle.mlu_point.proofs.Halves.{halves-batch}
use Rattle.mlu_point.proofs.eq_batch.+add_tables.Goals as goal

pub add_tables-requires : goal.add_tables-requires
add_tables-requires g t c =
    let vs = c.args.evals.values.now in
    let s = length c.args.scalars.now in
    let others = c.split_rows.result.1.values.now in
    let scalars = c.split_shares.new.high in
    let packing = g.F.Packing.PackedValue in
    let height : c.height.result ≡ length vs / s = c.height.ensures ∙ ap (λ n. length vs / n) c.requires.width in
    let positive : c.height.result ≡ 0 → ⊥ = λ none. c.if-height-below.false (omega (arith, none, height, c.requires.below)) in
    let sizes = split-sizes vs others c.args.out.now _ _ _ s _ c.requires.some c.requires.width c.args.evals.rows c.height.ensures positive c.split_rows.ensures.rest c.requires.size c.split_at_mut-low.ensures.front c.split_at_mut-low.ensures.back in
    let whole : length vs ≡ length vs / s * s = c.args.evals.rows ∙ ap (λ n. length vs / n * n) c.requires.width in
    let left = rows-left (length vs) (length others) s c.args.below c.requires.some whole sizes.1 c.requires.below (λ same. c.if-height-below.false (height ∙ same)) in
    let long : length scalars ≡ s = omega (arith, c.split_shares.auto.high, c.split_at_mut-high_scalars.ensures.front_len) in
    let shorter : length others < length vs = sizes.0 in
    let some : 0 < length scalars = omega (arith, long, c.requires.some) in
    let width : c.split_rows.result.1.width ≡ length scalars = c.split_rows.ensures.rest_width ∙ c.requires.width ∙ sym long in
    let below : c.args.below ≤ length others / length scalars = subst (λ n. c.args.below ≤ length others / n) (sym long) left.0 in
    let space : length c.split_at_mut-high_scalars.result.1.now + c.args.below * length scalars ≡ length others =
    ap (λ n. length c.split_at_mut-high_scalars.result.1.now + c.args.below * n) long ∙ omega (arith, sizes.1, left.1, c.requires.space, c.split_at_mut-high_scalars.ensures.back_len) in
    let room = room-kept packing.WIDTH packing.LOG_WIDTH c.args.below c.args.scalars.now scalars c.args.lanes.now c.args.lanes.now c.args.packed.now c.args.packed.now long refl refl c.requires.room in
    let size : length c.split_at_mut-low.result.1.now ≡ 2 ^ (length others / length scalars) = sizes.3 ∙ ap (λ n. 2 ^ (length others / n)) (sym long) in
    search rules

pub add_tables-requires-2 : goal.add_tables-requires-2
add_tables-requires-2 g t c =
    let vs = c.args.evals.values.now in
    let s = length c.args.scalars.now in
    let others = c.split_rows.result.1.values.now in
    let scalars = c.split_shares.new.low in
    let packing = g.F.Packing.PackedValue in
    let lanes = c.add_tables.new.lanes in
    let packed = c.add_tables.new.packed in
    let height : c.height.result ≡ length vs / s = c.height.ensures ∙ ap (λ n. length vs / n) c.requires.width in
    let positive : c.height.result ≡ 0 → ⊥ = λ none. c.if-height-below.false (omega (arith, none, height, c.requires.below)) in
    let sizes = split-sizes vs others c.args.out.now _ _ _ s _ c.requires.some c.requires.width c.args.evals.rows c.height.ensures positive c.split_rows.ensures.rest c.requires.size c.split_at_mut-low.ensures.front c.split_at_mut-low.ensures.back in
    let whole : length vs ≡ length vs / s * s = c.args.evals.rows ∙ ap (λ n. length vs / n * n) c.requires.width in
    let left = rows-left (length vs) (length others) s c.args.below c.requires.some whole sizes.1 c.requires.below (λ same. c.if-height-below.false (height ∙ same)) in
    let long : length scalars ≡ s = c.split_shares.auto.low in
    let shorter : length others < length vs = sizes.0 in
    let some : 0 < length scalars = omega (arith, long, c.requires.some) in
    let width : c.split_rows.result.1.width ≡ length scalars = c.split_rows.ensures.rest_width ∙ c.requires.width ∙ sym long in
    let below : c.args.below ≤ length others / length scalars = subst (λ n. c.args.below ≤ length others / n) (sym long) left.0 in
    let space : length c.add_tables.new.space + c.args.below * length scalars ≡ length others =
    ap (λ n. length c.add_tables.new.space + c.args.below * n) long ∙ omega (arith, sizes.1, left.1, c.requires.space, c.split_at_mut-high_scalars.ensures.back_len, c.add_tables.auto.space) in
    let room = room-kept packing.WIDTH packing.LOG_WIDTH c.args.below c.args.scalars.now scalars c.args.lanes.now lanes c.args.packed.now packed long c.add_tables.auto.lanes c.add_tables.auto.packed c.requires.room in
    let size : length c.split_at_mut-low.result.0.now ≡ 2 ^ (length others / length scalars) = sizes.2 ∙ ap (λ n. 2 ^ (length others / n)) (sym long) in
    search rules

pub returns : goal.returns
returns g t c =
    let vs = c.args.evals.values.now in
    let height : c.height.result ≡ length vs / length c.args.scalars.now = c.height.ensures ∙ ap (λ n. length vs / n) c.requires.width in
    let positive : c.height.result ≡ 0 → ⊥ = λ none. c.if-height-below.false (omega (arith, none, height, c.requires.below)) in
    let long : length c.split_shares.new.high ≡ length c.args.scalars.now = omega (arith, c.split_shares.auto.high, c.split_at_mut-high_scalars.ensures.front_len) in
    halves-batch g.EF.Additive.ring g.met.EF.Additive.laws g.E.EqualityEvaluator.image _ vs c.split_rows.result.0.values.now c.split_rows.result.1.values.now c.args.scalars.now c.split_shares.new.low c.split_shares.new.high c.args.out.now
    c.split_at_mut-low.result.0.now c.split_at_mut-low.result.1.now c.add_tables-2.new.out c.add_tables.new.out _ _
    c.requires.some c.requires.width c.args.evals.rows c.height.ensures positive c.split_rows.ensures.first c.split_rows.ensures.rest c.split_shares.auto.low long c.split_shares.ensures.lower c.split_shares.ensures.upper c.requires.size
    c.split_at_mut-low.ensures.front c.split_at_mut-low.ensures.back c.add_tables-2.ensures c.add_tables.ensures
