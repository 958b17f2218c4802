use Rattle.std.proofs.Common.{◌≡◌, ◌*◌, ◌++◌, length, map, get_or, ap, ◌∙◌, arith}
use Rattle.std.specs.Vec.{vec_capacity}
use Rattle.std.proofs.lemmas.List.{length-map}
use Rattle.mlu_ring.proofs.Rows.{rows_of-multiple}
use Rattle.mlu_point.proofs.Transposes.{row_of, joined-more, rows-size, first-dimension, joined-transposed}
use Rattle.mlu_point.proofs.point.owned.Point.transpose.Goals as goal

pub loop-j-preserved : goal.loop-j-preserved
loop-j-preserved g c =
    let zero = g.F.Additive.ring.zero in
    let points = c.args.points.now in
    let before = c.loop-j.values.items in
    let row = row_of g.F.Additive.ring points c.args.rev_order c.num_variables-k.result in
    let len = c.push_coordinates.ensures.len in
    let len_before = c.loop-j.invariant.len in
    let made : c.push_coordinates.new.values.items ≡ before ++ row c.loop-j.j =
    c.push_coordinates.ensures.items ∙ ap (λ place. before ++ map (λ p. get_or p place zero) points) c.source_of.ensures in
    record {
      rows = joined-more row c.loop-j.j before c.push_coordinates.new.values.items c.loop-j.invariant.rows made;
      size = rows-size before (row c.loop-j.j) c.push_coordinates.new.values.items c.loop-j.j (length points) c.loop-j.invariant.size (length-map points _) made;
      len = omega (arith, len, len_before);
      capacity = c.push_coordinates.ensures.capacity ∙ c.loop-j.invariant.capacity;
    }

pub new-requires : goal.new-requires
new-requires g c = rows_of-multiple (length c.loop-j.values.items) c.loop-j.j (length c.args.points.now) c.loop-j.invariant.size

pub returns-clause-values : goal.returns-clause-values
returns-clause-values g c =
    let all : c.loop-j.j ≡ c.num_variables-k.result = omega (arith, c.loop-j-test.false, c.loop-j.auto.j-end) in
    let size = c.num_variables-k.ensures ∙ first-dimension c.args.points.now c.index-points-0.result c.requires.some c.index-points-0.is in
    ap (λ v. v.items) c.new.ensures.values
    ∙ joined-transposed g.F.Additive.ring c.args.points.now c.args.rev_order c.num_variables-k.result c.loop-j.j c.loop-j.values.items size all c.loop-j.invariant.rows

pub returns-clause-exact : goal.returns-clause-exact
returns-clause-exact g c =
    let size = c.num_variables-k.ensures ∙ first-dimension c.args.points.now c.index-points-0.result c.requires.some c.index-points-0.is in
    ap vec_capacity c.new.ensures.values ∙ c.loop-j.invariant.capacity ∙ ap (λ k. k * length c.args.points.now) size
