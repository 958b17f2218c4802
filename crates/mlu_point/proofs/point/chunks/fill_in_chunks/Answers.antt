use Rattle.std.proofs.Common.{◌≡◌, ◌+◌, ◌-◌, ◌*◌, ◌^◌, ◌<◌, map, length, ap, sym, ◌∙◌, arith, rules}
use Rattle.std.proofs.lemmas.Grind.{common_steps}
use Rattle.mlu_point.specs.Orders.{weights_by}
use Rattle.mlu_point.proofs.Chunks.{fits-high, places-joined, products-joined, length-joined_by}
use Rattle.mlu_point.proofs.JoinedTables.{joined-none, table-in_chunks, chunks-many}
use Rattle.mlu_point.proofs.point.chunks.fill_in_chunks.Goals as goal

pub returns-then-is_empty-clause-table : goal.returns-then-is_empty-clause-table
returns-then-is_empty-clause-table g c =
    let none : length c.split_high.result.0.now ≡ 0 = first_of (search rules, grind (arith, common_steps)) in
    let whole = c.split_high.ensures.whole ∙ joined-none c.args.order c.split_high.result.0.now c.split_high.result.1.now none in
    c.fill_by_meter.ensures.table ∙ ap (λ p. map (g.F.Additive.ring.product c.args.scale) (weights_by c.args.order g.F.Additive.ring p)) (sym whole)

pub returns-then-is_empty-clause-made : goal.returns-then-is_empty-clause-made
returns-then-is_empty-clause-made g c =
    let none : length c.split_high.result.0.now ≡ 0 = first_of (search rules, grind (arith, common_steps)) in
    let whole = c.split_high.ensures.whole ∙ joined-none c.args.order c.split_high.result.0.now c.split_high.result.1.now none in
    c.fill_by_meter.ensures.made ∙ ap (λ p. g.M.Meter.made c.args.meter.now + (2 ^ length p - 1)) (sym whole)

pub scaled_weights-requires : goal.scaled_weights-requires
scaled_weights-requires g c =
    let fits : length c.args.out.now < 2 ^ 64 = omega arith in
    fits-high c.args.order c.split_high.result.0.now c.split_high.result.1.now c.args.coords.now (length c.args.out.now) c.split_high.ensures.whole c.requires.places fits

pub returns-in_err-seeds-clause-whole : goal.returns-in_err-seeds-clause-whole
returns-in_err-seeds-clause-whole g c same =
    let some : length c.split_high.result.0.now ≡ 0 → ⊥ = first_of (search rules, grind (arith, common_steps)) in
    absurd (some (omega (arith, ap length c.split_high.ensures.whole, length-joined_by c.args.order c.split_high.result.0.now c.split_high.result.1.now, c.split_high.ensures.low, same)))

pub fill_chunks-requires : goal.fill_chunks-requires
fill_chunks-requires g c =
    let high = c.split_high.result.0.now in
    let low = c.split_high.result.1.now in
    let seeds = chunks-many g.F.Additive.ring g.met.F.Additive.laws c.args.order c.args.scale c.split_high.result.0.now c.as_slice.result.now (c.as_slice.ensures.value ∙ c.in_ok-seeds.ensures.table) in
    c.requires.places ∙ places-joined c.args.order high low c.args.coords.now c.split_high.ensures.whole ∙ ap (λ n. n * 2 ^ length low) (sym seeds)

pub returns-clause-table : goal.returns-clause-table
returns-clause-table g c =
    table-in_chunks g.F.Additive.ring g.met.F.Additive.laws c.args.order c.args.scale c.split_high.result.0.now c.split_high.result.1.now c.args.coords.now c.as_slice.result.now c.fill_chunks.new.out
    c.split_high.ensures.whole (c.as_slice.ensures.value ∙ c.in_ok-seeds.ensures.table) c.fill_chunks.ensures.table

pub returns-clause-made : goal.returns-clause-made
returns-clause-made g c =
    let high = c.split_high.result.0.now in
    let low = c.split_high.result.1.now in
    let seeds = chunks-many g.F.Additive.ring g.met.F.Additive.laws c.args.order c.args.scale c.split_high.result.0.now c.as_slice.result.now (c.as_slice.ensures.value ∙ c.in_ok-seeds.ensures.table) in
    let chunks = ap (λ n. n * (2 ^ length low - 1)) seeds in
    omega (arith, c.fill_chunks.ensures.made, c.in_ok-seeds.ensures.made, chunks, products-joined c.args.order high low c.args.coords.now c.split_high.ensures.whole)
