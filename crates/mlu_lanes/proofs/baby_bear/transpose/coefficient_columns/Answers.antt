-- Four places of each column at a time, and then one.
use Rattle.std.proofs.Common.{◌≡◌, ◌+◌, ◌*◌, ◌<◌, length, get_or, ◌∙◌, arith, length-set, lit<}
use Rattle.std.proofs.lemmas.List.{length-map}
use Rattle.mlu_ring.proofs.Filled.{filled_next, filled_whole}
use Rattle.mlu_lanes.specs.BabyBear.{reduced}
use Rattle.mlu_ring.specs.Columns.{column_of}
use Rattle.mlu_lanes.proofs.Columns.{column_at, column_four}
use Rattle.mlu_lanes.proofs.baby_bear.transpose.coefficient_columns.Goals as goal

pub loop-g-preserved : goal.loop-g-preserved
loop-g-preserved g c =
    let list = g.E.Coefficients.list in
    let elements = c.args.elements.now in
    let n = 4 * c.loop-g.g in
    let m = 4 * (c.loop-g.g + 1) in
    let columns = c.transposed-columns.ensures in
    let invariant = c.loop-g.invariant in
    let next : 4 * (c.loop-g.g + 1) ≡ 4 * c.loop-g.g + 4 = omega arith in
    let room : 4 * c.loop-g.g + 3 < length c.args.elements.now = omega (arith, c.requires.width, c.loop-g-test.true) in
    let e = c.index-elements-k.is in
    let f = c.index-elements-k-in-loop-g.is in
    let g = c.index-elements-k-in-loop-g-2.is in
    let h = c.index-elements-k-in-loop-g-3.is in
    record {
      long_first = c.put.ensures.long ∙ invariant.long_first;
      long_second = c.put-in-loop-g.ensures.long ∙ invariant.long_second;
      long_third = c.put-in-loop-g-2.ensures.long ∙ invariant.long_third;
      long_fourth = c.put-in-loop-g-3.ensures.long ∙ invariant.long_fourth;
      first = column_four list elements 0 c.loop-g.first c.put.new.out _ n m _ _ _ _ next room e f g h invariant.first c.put.ensures.before c.put.ensures.written
          (c.kept_together.ensures 0 (lit< tt) ∙ columns.first.0 ∙ c.row.ensures.value 0 (lit< tt)) (c.kept_together.ensures 1 (lit< tt) ∙ columns.first.1 ∙ c.row-in-loop-g.ensures.value 0 (lit< tt)) (c.kept_together.ensures 2 (lit< tt) ∙ columns.first.2 ∙ c.row-in-loop-g-2.ensures.value 0 (lit< tt)) (c.kept_together.ensures 3 (lit< tt) ∙ columns.first.3 ∙ c.row-in-loop-g-3.ensures.value 0 (lit< tt));
      second = column_four list elements 1 c.loop-g.second c.put-in-loop-g.new.out _ n m _ _ _ _ next room e f g h invariant.second c.put-in-loop-g.ensures.before c.put-in-loop-g.ensures.written
          (c.kept_together-in-loop-g.ensures 0 (lit< tt) ∙ columns.second.0 ∙ c.row.ensures.value 1 (lit< tt)) (c.kept_together-in-loop-g.ensures 1 (lit< tt) ∙ columns.second.1 ∙ c.row-in-loop-g.ensures.value 1 (lit< tt)) (c.kept_together-in-loop-g.ensures 2 (lit< tt) ∙ columns.second.2 ∙ c.row-in-loop-g-2.ensures.value 1 (lit< tt)) (c.kept_together-in-loop-g.ensures 3 (lit< tt) ∙ columns.second.3 ∙ c.row-in-loop-g-3.ensures.value 1 (lit< tt));
      third = column_four list elements 2 c.loop-g.third c.put-in-loop-g-2.new.out _ n m _ _ _ _ next room e f g h invariant.third c.put-in-loop-g-2.ensures.before c.put-in-loop-g-2.ensures.written
          (c.kept_together-in-loop-g-2.ensures 0 (lit< tt) ∙ columns.third.0 ∙ c.row.ensures.value 2 (lit< tt)) (c.kept_together-in-loop-g-2.ensures 1 (lit< tt) ∙ columns.third.1 ∙ c.row-in-loop-g.ensures.value 2 (lit< tt)) (c.kept_together-in-loop-g-2.ensures 2 (lit< tt) ∙ columns.third.2 ∙ c.row-in-loop-g-2.ensures.value 2 (lit< tt)) (c.kept_together-in-loop-g-2.ensures 3 (lit< tt) ∙ columns.third.3 ∙ c.row-in-loop-g-3.ensures.value 2 (lit< tt));
      fourth = column_four list elements 3 c.loop-g.fourth c.put-in-loop-g-3.new.out _ n m _ _ _ _ next room e f g h invariant.fourth c.put-in-loop-g-3.ensures.before c.put-in-loop-g-3.ensures.written
          (c.kept_together-in-loop-g-3.ensures 0 (lit< tt) ∙ columns.fourth.0 ∙ c.row.ensures.value 3 (lit< tt)) (c.kept_together-in-loop-g-3.ensures 1 (lit< tt) ∙ columns.fourth.1 ∙ c.row-in-loop-g.ensures.value 3 (lit< tt)) (c.kept_together-in-loop-g-3.ensures 2 (lit< tt) ∙ columns.fourth.2 ∙ c.row-in-loop-g-2.ensures.value 3 (lit< tt)) (c.kept_together-in-loop-g-3.ensures 3 (lit< tt) ∙ columns.fourth.3 ∙ c.row-in-loop-g-3.ensures.value 3 (lit< tt));
    }

pub loop-k-preserved : goal.loop-k-preserved
loop-k-preserved g c =
    let list = g.E.Coefficients.list in
    let elements = c.args.elements.now in
    let k = c.loop-k.k in
    let invariant = c.loop-k.invariant in
    let in_elements : c.loop-k.k < length c.args.elements.now = omega (arith, c.requires.width) in
    let long_first = invariant.long_first in
    let in_first : c.loop-k.k < length c.loop-k.first = omega (arith, long_first) in
    let long_second = invariant.long_second in
    let in_second : c.loop-k.k < length c.loop-k.second = omega (arith, long_second) in
    let long_third = invariant.long_third in
    let in_third : c.loop-k.k < length c.loop-k.third = omega (arith, long_third) in
    let long_fourth = invariant.long_fourth in
    let in_fourth : c.loop-k.k < length c.loop-k.fourth = omega (arith, long_fourth) in
    record {
      long_first = rw length-set long_first;
      long_second = rw length-set long_second;
      long_third = rw length-set long_third;
      long_fourth = rw length-set long_fourth;
      first = filled_next (reduced 0) c.loop-k.first (column_of (reduced 0) list elements 0) k c.at.result in_first invariant.first (c.at.ensures (reduced 0) ∙ column_at list elements 0 k _ in_elements c.index-elements-k-in-loop-k.is);
      second = filled_next (reduced 0) c.loop-k.second (column_of (reduced 0) list elements 1) k c.at-in-loop-k.result in_second invariant.second (c.at-in-loop-k.ensures (reduced 0) ∙ column_at list elements 1 k _ in_elements c.index-elements-k-in-loop-k-2.is);
      third = filled_next (reduced 0) c.loop-k.third (column_of (reduced 0) list elements 2) k c.at-in-loop-k-2.result in_third invariant.third (c.at-in-loop-k-2.ensures (reduced 0) ∙ column_at list elements 2 k _ in_elements c.index-elements-k-in-loop-k-3.is);
      fourth = filled_next (reduced 0) c.loop-k.fourth (column_of (reduced 0) list elements 3) k c.at-in-loop-k-3.result in_fourth invariant.fourth (c.at-in-loop-k-3.ensures (reduced 0) ∙ column_at list elements 3 k _ in_elements c.index-elements-k-in-loop-k-4.is);
    }

pub returns-clause-first : goal.returns-clause-first
returns-clause-first g c =
    let column = column_of (reduced 0) g.E.Coefficients.list c.args.elements.now 0 in
    let long = c.loop-k.invariant.long_first in
    let size = length-map c.args.elements.now (λ x. get_or (g.E.Coefficients.list x) 0 (reduced 0)) in
    c.from_array.ensures ∙ filled_whole (reduced 0) c.loop-k.first column c.loop-k.k (omega (arith, long)) (omega (arith, long, size, c.requires.width)) c.loop-k.invariant.first

pub returns-clause-second : goal.returns-clause-second
returns-clause-second g c =
    let column = column_of (reduced 0) g.E.Coefficients.list c.args.elements.now 1 in
    let long = c.loop-k.invariant.long_second in
    let size = length-map c.args.elements.now (λ x. get_or (g.E.Coefficients.list x) 1 (reduced 0)) in
    c.from_array-2.ensures ∙ filled_whole (reduced 0) c.loop-k.second column c.loop-k.k (omega (arith, long)) (omega (arith, long, size, c.requires.width)) c.loop-k.invariant.second

pub returns-clause-third : goal.returns-clause-third
returns-clause-third g c =
    let column = column_of (reduced 0) g.E.Coefficients.list c.args.elements.now 2 in
    let long = c.loop-k.invariant.long_third in
    let size = length-map c.args.elements.now (λ x. get_or (g.E.Coefficients.list x) 2 (reduced 0)) in
    c.from_array-3.ensures ∙ filled_whole (reduced 0) c.loop-k.third column c.loop-k.k (omega (arith, long)) (omega (arith, long, size, c.requires.width)) c.loop-k.invariant.third

pub returns-clause-fourth : goal.returns-clause-fourth
returns-clause-fourth g c =
    let column = column_of (reduced 0) g.E.Coefficients.list c.args.elements.now 3 in
    let long = c.loop-k.invariant.long_fourth in
    let size = length-map c.args.elements.now (λ x. get_or (g.E.Coefficients.list x) 3 (reduced 0)) in
    c.from_array-4.ensures ∙ filled_whole (reduced 0) c.loop-k.fourth column c.loop-k.k (omega (arith, long)) (omega (arith, long, size, c.requires.width)) c.loop-k.invariant.fourth
