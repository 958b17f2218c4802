-- One reduction a lane gives the sum of four products.
use Rattle.mlu_lanes.proofs.PackedSums.{read_four, sum_of_residues}
use Rattle.mlu_lanes.proofs.baby_bear.field.BabyBearField.dot4.Goals as goal

pub returns : goal.returns
returns g c =
    let l = read_four c.args.l.now _ _ _ _ c.requires.left c.index-l-0.is c.index-l-1.is c.index-l-2.is c.index-l-3.is in
    let r = read_four c.args.r.now _ _ _ _ c.requires.right c.index-r-0.is c.index-r-1.is c.index-r-2.is c.index-r-3.is in
    let sum = sum_of_residues
    c.index-l-0.result c.index-l-1.result c.index-l-2.result c.index-l-3.result
    c.index-r-0.result c.index-r-1.result c.index-r-2.result c.index-r-3.result
    c.sum_reduced.result (λ j below.
    let low = c.wide_sums-low.ensures j below in
    let high = c.wide_sums-high.ensures j below in
    let whole = c.wide_sums.ensures j below in
    let residue = c.sum_reduced.ensures j below in
    let first = c.products.ensures.value j below in
    let second = c.products-2.ensures.value j below in
    let third = c.products-3.ensures.value j below in
    let fourth = c.products-4.ensures.value j below in
    cc (residue, whole, low, high, first, second, third, fourth)) in
    cc (l, r, sum)
