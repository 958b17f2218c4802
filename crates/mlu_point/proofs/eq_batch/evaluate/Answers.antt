use Rattle.std.proofs.Common.{◌≡◌, ◌+◌, ◌-◌, ◌*◌, length, length-append, map, ap, sym, ◌∙◌, rules, arith}
use Rattle.std.proofs.lemmas.Simd.{length-replicate}
use Rattle.std.proofs.lemmas.Grind.{common_steps}
use Rattle.mlu_point.proofs.Batches.{batch-kept, batch-cleared}
use Rattle.mlu_point.proofs.eq_batch.evaluate.Goals as goal

pub returns-then-not-this-clause-left : goal.returns-then-not-this-clause-left
returns-then-not-this-clause-left g c =
    let none : length c.args.scalars.now ≡ 0 = first_of (search rules, grind (arith, common_steps)) in
    c.clear.ensures
    ∙ batch-cleared g.EF.Additive.ring g.met.EF.Additive.laws g.row.INITIALIZED (map g.E.EqualityEvaluator.image c.args.evals.values.now) c.args.scalars.now c.args.out.now c.if-not-this.true none

pub returns-else-not-this-clause-left : goal.returns-else-not-this-clause-left
returns-else-not-this-clause-left g c =
    let none : length c.args.scalars.now ≡ 0 = first_of (search rules, grind (arith, common_steps)) in
    batch-kept g.EF.Additive.ring g.met.EF.Additive.laws g.row.INITIALIZED (map g.E.EqualityEvaluator.image c.args.evals.values.now) c.args.scalars.now c.args.out.now c.if-not-this.false none

pub add_tables-requires-clause-room : goal.add_tables-requires-clause-room
add_tables-requires-clause-room g c =
    λ positive.
    let points = length c.args.scalars.now in
    let below = c.variables_of_chunk-below.result in
    let front : length c.split_at_mut-shares.result.0.now ≡ points = omega (arith, c.split_at_mut-shares.ensures.front_len) in
    let whole = ap length c.as_mut_slice.ensures.value ∙ ap length c.in_ok-working.ensures ∙ length-append c.args.scalars.now _ ∙ ap (λ n. points + n) (length-replicate _ g.EF.Additive.ring.zero) in
    let width = c.in_ok-lanes.ensures.some positive in (
      c.variables_of_chunk-below.ensures.lanes positive,
      omega (arith, whole, c.split_at_mut-shares.ensures.back_len, c.split_at_mut-space.ensures.back_len, width),
      ap length c.as_mut_slice-2.ensures.value ∙ c.in_ok-packed.ensures.some positive ∙ ap (λ n. 4 * ((below - (g.F.Packing.PackedValue.LOG_WIDTH + 2)) * n + n)) (sym front),
    )
