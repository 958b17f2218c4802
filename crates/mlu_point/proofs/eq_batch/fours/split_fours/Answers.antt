use Rattle.std.proofs.Common.{◌∙◌, refl, arith}
use Rattle.mlu_point.specs.Batches.{lower_share, upper_share, pair_image, pair_ring}
use Rattle.mlu_point.proofs.Pairs.{are_fours}
use Rattle.mlu_point.proofs.eq_batch.fours.split_fours.Goals as goal

pub returns-clause-upper : goal.returns-clause-upper
returns-clause-upper g c =
    let ring = g.S.Additive.ring in
    let image = g.E.EqualityEvaluator.image in
    let end = c.loop-i-test.false in
    are_fours (upper_share ring image) (upper_share (pair_ring (pair_ring ring)) (pair_image (pair_image image))) (λ t x. refl)
    c.loop-i.high c.args.low.now c.args.coordinates.now c.requires.low (c.loop-i.invariant.long_high ∙ c.requires.high)
    (λ k i d x h a b. c.loop-i.invariant.upper k i d x (omega (arith, h, end)) a b)

pub returns-clause-lower : goal.returns-clause-lower
returns-clause-lower g c =
    let ring = g.S.Additive.ring in
    let image = g.E.EqualityEvaluator.image in
    let end = c.loop-i-test.false in
    are_fours (lower_share ring image) (lower_share (pair_ring (pair_ring ring)) (pair_image (pair_image image))) (λ t x. refl)
    c.loop-i.low c.args.low.now c.args.coordinates.now c.requires.low c.loop-i.invariant.long_low
    (λ k i d x h a b. c.loop-i.invariant.lower k i d x (omega (arith, h, end)) a b)
