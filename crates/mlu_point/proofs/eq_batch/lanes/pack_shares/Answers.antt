use Rattle.std.proofs.Common.{◌≡◌, ◌*◌, ◌∙◌, map, take, drop, get_or, ap, arith, below_more}
use Rattle.std.proofs.lemmas.List.{get_or_default}
use Rattle.mlu_ring.specs.Lanes.{logical}
use Rattle.mlu_ring.specs.Matrices.{column}
use Rattle.mlu_ring.specs.Tables.{weights}
use Rattle.mlu_point.proofs.Pairs.{row-before}
use Rattle.mlu_point.proofs.eq_batch.lanes.pack_shares.Goals as goal

pub loop-i-preserved : goal.loop-i-preserved
loop-i-preserved g c =
    let ring = g.EF.Additive.ring in
    let lanes = g.EF.ExtensionPacking.PackedFieldExtension.ext_lanes in
    let values = map g.E.EqualityEvaluator.image c.args.evals.values.now in
    let scalars = c.args.scalars.now in
    let i = c.loop-i.i in
    let start : c.loop-i.i * 4 ≡ 4 * c.loop-i.i = omega arith in
    let scalar = c.index-scalars-i.is ∙ get_or_default scalars i c.index-scalars-i.result ring.zero c.loop-i-test.true in
    record {
      long = c.pack_four.auto.shares ∙ c.loop-i.invariant.long;
      buffer = c.fill_column.auto.out ∙ c.loop-i.invariant.buffer;
      packed = below_more _ i
          (λ k h. ap (logical lanes) (row-before c.pack_four.new.shares c.loop-i.shares (4 * i) k c.pack_four.ensures.before (omega (arith, h))) ∙ c.loop-i.invariant.packed k h)
          (ap (λ n. logical lanes (take 4 (drop n c.pack_four.new.shares))) start
          ∙ c.pack_four.ensures.packed
          ∙ c.fill_column.ensures
          ∙ ap (λ s. map (λ w. ring.product s w) (weights ring (column ring values c.args.evals.width i))) scalar
          ∙ ap (λ n. map (λ w. ring.product (get_or scalars i ring.zero) w) (weights ring (column ring values n i))) c.requires.width);
    }
