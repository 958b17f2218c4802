-- Four products are added to each lane, and the residues of the lanes are the sum.
use Rattle.std.proofs.Common.{◌≡◌, ◌+◌, ◌*◌, slice_index, take, ap, ◌∙◌, lit<, arith}
use Rattle.mlu_ring.specs.Tables.{pair}
use Rattle.mlu_lanes.specs.BabyBear.{baby_bear_ring}
use Rattle.mlu_lanes.specs.Packed.{product_at}
use Rattle.mlu_lanes.proofs.Dots.{no_lanes, more_lanes, lanes_reduced}
use Rattle.mlu_lanes.proofs.baby_bear.dot.dot_of_groups.Goals as goal

pub loop-g-init : goal.loop-g-init
loop-g-init g c = no_lanes (product_at c.args.l.now c.args.r.now) c.wide_splat-lows.result c.wide_splat-highs.result c.wide_splat-lows.ensures c.wide_splat-highs.ensures

pub loop-g-preserved : goal.loop-g-preserved
loop-g-preserved g c =
    let x = slice_index c.group_products_at-products.result in
    more_lanes (product_at c.args.l.now c.args.r.now) (16 * c.loop-g.g) (16 * (c.loop-g.g + 1)) c.loop-g.g
    c.loop-g.lows c.loop-g.highs c.wide_sums-lows.result c.wide_sums-highs.result x (omega arith) c.loop-g.invariant
    (λ j b. c.wide_sums-lows.ensures j b ∙ ap (λ n. slice_index c.loop-g.lows j + n) (c.lower_halves.ensures j b))
    (λ j b. c.wide_sums-highs.ensures j b ∙ ap (λ n. slice_index c.loop-g.highs j + n) (c.shifted_right.ensures j b))
    c.group_products_at-products.ensures.small c.group_products_at-products.ensures.value

pub returns : goal.returns
returns g c =
    let ring = baby_bear_ring g.row.W in
    let l = c.args.l.now in
    let r = c.args.r.now in
    let n = 16 * c.loop-g.g in
    let end : n ≡ 16 * c.args.groups = omega (arith, c.loop-g-test.false, c.loop-g.auto.g-end) in
    let four = c.elements_of.result in
    let sums = c.elements_of.ensures in
    let halves = c.reduce_halves.ensures in
    c.add-3.ensures
    ∙ (λ i. ring.sum (c.add.ensures i) (c.add-2.ensures i))
    ∙ lanes_reduced l r n c.loop-g.g c.loop-g.lows c.loop-g.highs four.0 four.1 four.2 four.3 (omega (arith, end, c.requires.left)) (omega (arith, end, c.requires.right)) c.loop-g.invariant
    (sums.first ∙ halves 0 (lit< tt)) (sums.second ∙ halves 1 (lit< tt)) (sums.third ∙ halves 2 (lit< tt)) (sums.fourth ∙ halves 3 (lit< tt))
    ∙ ap (λ k. pair ring (take k l) r) end
