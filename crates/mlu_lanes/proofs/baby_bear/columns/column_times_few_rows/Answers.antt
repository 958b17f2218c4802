-- Each word of a group is a sum of four products, and the others are products.
use Rattle.std.proofs.Common.{◌≡◌, ℕ, ◌+◌, ◌*◌, ◌%◌, ◌^◌, ◌<◌, [], ◌∷◌, length, slice_index, slice_index_or, refl, ap, sym, ◌∙◌, arith}
use Rattle.std.proofs.lemmas.List.{length-map}
use Rattle.mlu_ring.specs.Tables.{pair}
use Rattle.mlu_ring.proofs.Groups.{pair-take_more, pair-take_four_more}
use Rattle.mlu_ring.proofs.Totals.{pair-nil}
use Rattle.mlu_lanes.specs.BabyBear.{baby_bear_ring, baby_bear_laws, canonical, reduced}
use Rattle.mlu_lanes.specs.declared.baby_bear.TheConstants.{MODULUS}
use Rattle.mlu_ring.specs.Columns.{column_of}
use Rattle.mlu_lanes.proofs.HalvedSums.{more, read-column}
use Rattle.mlu_lanes.proofs.ResidueSums.{reduced_once}
use Rattle.mlu_lanes.proofs.baby_bear.columns.column_times_few_rows.Goals as goal

pub loop-g-init : goal.loop-g-init
loop-g-init g c =
    let ring = baby_bear_ring g.row.W in
    record {
      value = λ j b.
          (λ i. reduced (c.wide_splat-lows.ensures j b i + 2 ^ 32 * c.wide_splat-highs.ensures j b i))
          ∙ sym (pair-nil ring (baby_bear_laws g.row.W) (column_of (reduced 0) g.E.Coefficients.list c.args.r.now j));
      low = λ j b. omega (arith, c.wide_splat-lows.ensures j b);
      high = λ j b. omega (arith, c.wide_splat-highs.ensures j b);
    }

pub loop-g-preserved : goal.loop-g-preserved
loop-g-preserved g c =
    let ring = baby_bear_ring g.row.W in
    let list = g.E.Coefficients.list in
    let i = 4 * c.loop-g.g in
    let left = column_of (reduced 0) list c.args.l.now c.args.a in
    let right = column_of (reduced 0) list c.args.r.now in
    let long_l : length left ≡ length c.args.l.now = length-map c.args.l.now _ in
    let next : 4 * (c.loop-g.g + 1) ≡ i + 4 = omega arith in
    let within : i + 3 < length left = omega (arith, long_l, c.loop-g-test.true) in
    let at_l = read-column (reduced 0) list c.args.l.now in
    let at_r = read-column (reduced 0) list c.args.r.now in
    let p = λ (j : ℕ). slice_index_or (list c.index-r-i.result) j (reduced 0) in
    let q = λ (j : ℕ). slice_index_or (list c.index-r-i-in-loop-g.result) j (reduced 0) in
    let u = λ (j : ℕ). slice_index_or (list c.index-r-i-in-loop-g-2.result) j (reduced 0) in
    let v = λ (j : ℕ). slice_index_or (list c.index-r-i-in-loop-g-3.result) j (reduced 0) in
    let x = slice_index c.unreduced_rows-products.result in
    let term = λ (j : ℕ). pair ring (c.at.result ∷ c.at-in-loop-g.result ∷ c.at-in-loop-g-2.result ∷ c.at-in-loop-g-3.result ∷ []) (p j ∷ q j ∷ u j ∷ v j ∷ []) in
    more i (4 * (c.loop-g.g + 1)) c.loop-g.lows c.loop-g.highs c.wide_sums-lows.result c.wide_sums-highs.result x _ _ right term
    (omega arith) c.loop-g.invariant
    (λ j b. c.wide_sums-lows.ensures j b ∙ ap (λ n. slice_index c.loop-g.lows j + n) (c.lower_halves.ensures j b))
    (λ j b. c.wide_sums-highs.ensures j b ∙ ap (λ n. slice_index c.loop-g.highs j + n) (c.shifted_right.ensures j b))
    (λ j b. omega (arith, c.unreduced_rows-products.ensures.small j b))
    (λ j b.
    let value = c.unreduced_rows-products.ensures.value j b in
    reduced_once c.at.result c.at-in-loop-g.result c.at-in-loop-g-2.result c.at-in-loop-g-3.result (p j) (q j) (u j) (v j) (reduced (x j))
    (ap (λ n. n % MODULUS) (value
    ∙ (λ k. canonical c.at.result * c.row.ensures.value j b k + canonical c.at-in-loop-g.result * c.row-in-loop-g.ensures.value j b k
    + (canonical c.at-in-loop-g-2.result * c.row-in-loop-g-2.ensures.value j b k + canonical c.at-in-loop-g-3.result * c.row-in-loop-g-3.ensures.value j b k)))))
    (λ j b.
    pair-take_four_more ring (baby_bear_laws g.row.W) left (right j) i (4 * (c.loop-g.g + 1)) _ _ _ _ (p j) (q j) (u j) (v j) next within
    (long_l ∙ c.requires.long ∙ sym (length-map c.args.r.now _))
    (at_l _ _ _ _ c.index-l-i.is (c.at.ensures (reduced 0)))
    (at_l _ _ _ _ c.index-l-i-in-loop-g.is (c.at-in-loop-g.ensures (reduced 0)))
    (at_l _ _ _ _ c.index-l-i-in-loop-g-2.is (c.at-in-loop-g-2.ensures (reduced 0)))
    (at_l _ _ _ _ c.index-l-i-in-loop-g-3.is (c.at-in-loop-g-3.ensures (reduced 0)))
    (at_r _ j _ _ c.index-r-i.is refl) (at_r _ j _ _ c.index-r-i-in-loop-g.is refl)
    (at_r _ j _ _ c.index-r-i-in-loop-g-2.is refl) (at_r _ j _ _ c.index-r-i-in-loop-g-3.is refl))

pub loop-i-preserved : goal.loop-i-preserved
loop-i-preserved g c =
    let ring = baby_bear_ring g.row.W in
    let list = g.E.Coefficients.list in
    let i = c.loop-i.i in
    let left = column_of (reduced 0) list c.args.l.now c.args.a in
    let right = column_of (reduced 0) list c.args.r.now in
    let long_l : length left ≡ length c.args.l.now = length-map c.args.l.now _ in
    let within : i < length left = omega (arith, long_l, c.loop-i-test.true) in
    let y = c.at-in-loop-i.result in
    let p = λ (j : ℕ). slice_index_or (list c.index-r-i-in-loop-i.result) j (reduced 0) in
    let x = slice_index c.row_scaled-products.result in
    more i (i + 1) c.loop-i.lows c.loop-i.highs c.wide_sums-lows-in-loop-i.result c.wide_sums-highs-in-loop-i.result x _ _ right (λ j. ring.product y (p j))
    (omega arith) c.loop-i.invariant
    (λ j b. c.wide_sums-lows-in-loop-i.ensures j b ∙ ap (λ n. slice_index c.loop-i.lows j + n) (c.lower_halves-in-loop-i.ensures j b))
    (λ j b. c.wide_sums-highs-in-loop-i.ensures j b ∙ ap (λ n. slice_index c.loop-i.highs j + n) (c.shifted_right-in-loop-i.ensures j b))
    (λ j b. omega (arith, c.row_scaled-products.ensures.below j b))
    (λ j b. ap reduced (c.row_scaled-products.ensures.value j b ∙ ap (λ n. canonical y * n) (c.row-in-loop-i.ensures.value j b)))
    (λ j b.
    pair-take_more ring (baby_bear_laws g.row.W) left (right j) i y (p j) within (omega (arith, within, long_l, c.requires.long, length-map c.args.r.now (λ e. slice_index_or (list e) j (reduced 0))))
    (read-column (reduced 0) list c.args.l.now i c.args.a _ y c.index-l-i-in-loop-i.is (c.at-in-loop-i.ensures (reduced 0)))
    (read-column (reduced 0) list c.args.r.now i j _ (p j) c.index-r-i-in-loop-i.is refl))
