-- The first places are summed as far as the halves go, and the others after them.
use Rattle.std.proofs.Common.{◌≡◌, ◌+◌, ◌%◌, slice_index, slice_index_or, lit<, sym, ap, ◌∙◌, arith}
use Rattle.mlu_ring.specs.Columns.{column_of}
use Rattle.mlu_ring.specs.Tables.{pair}
use Rattle.mlu_lanes.specs.BabyBear.{baby_bear_ring, canonical, canonical_below, reduced}
use Rattle.mlu_lanes.specs.declared.baby_bear.TheConstants.{MODULUS}
use Rattle.mlu_lanes.proofs.HalvedSums.{pair-in_two}
use Rattle.mlu_lanes.proofs.baby_bear.columns.+column_times_many_rows.Goals as goal

pub reduce_each_once-requires : goal.reduce_each_once-requires
reduce_each_once-requires g n c = (
  lit< tt,
  λ j b.
      omega (
        arith,
        c.sums.ensures j b,
        c.column_times_few_rows-first.ensures j b,
        c.column_times_many_rows-others.ensures j b,
        canonical_below (pair (baby_bear_ring g.row.W) (column_of (reduced 0) g.E.Coefficients.list c.split_at.result.0.now c.args.a)
            (column_of (reduced 0) g.E.Coefficients.list c.split_at-2.result.0.now j)),
        canonical_below (pair (baby_bear_ring g.row.W) (column_of (reduced 0) g.E.Coefficients.list c.split_at.result.1.now c.args.a)
            (column_of (reduced 0) g.E.Coefficients.list c.split_at-2.result.1.now j)),
      ),
)

pub returns : goal.returns
returns g n c j b =
    let ring = baby_bear_ring g.row.W in
    let l = c.args.l.now in
    let r = c.args.r.now in
    let list = g.E.Coefficients.list in
    let first = pair ring (column_of (reduced 0) list c.split_at.result.0.now c.args.a) (column_of (reduced 0) list c.split_at-2.result.0.now j) in
    let others = pair ring (column_of (reduced 0) list c.split_at.result.1.now c.args.a) (column_of (reduced 0) list c.split_at-2.result.1.now j) in
    let words : slice_index c.sums.result j ≡ canonical first + canonical others =
    omega (arith, c.sums.ensures j b, c.column_times_few_rows-first.ensures j b, c.column_times_many_rows-others.ensures j b, canonical_below first, canonical_below others) in
    let split = pair-in_two (λ x. slice_index_or (list x) c.args.a (reduced 0)) (λ x. slice_index_or (list x) j (reduced 0)) l r 1073741824 (omega (arith, c.if-l-le-MOST_PLACES.false)) in
    c.reduce_each_once.ensures j b ∙ ap (λ m. m % MODULUS) words
    ∙ sym (ap canonical (split
    ∙ (λ i. ring.sum
    (pair ring (column_of (reduced 0) list (sym c.split_at.ensures.front i) c.args.a) (column_of (reduced 0) list (sym c.split_at-2.ensures.front i) j))
    (pair ring (column_of (reduced 0) list (sym c.split_at.ensures.back i) c.args.a) (column_of (reduced 0) list (sym c.split_at-2.ensures.back i) j)))))
