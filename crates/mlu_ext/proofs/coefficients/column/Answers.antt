-- The lanes below k are coefficients of the elements.
use Rattle.std.proofs.Common.{◌<◌, length, get_or, ◌∙◌, arith, length-set}
use Rattle.std.proofs.lemmas.List.{length-map}
use Rattle.mlu_ring.specs.Columns.{column_of}
use Rattle.mlu_ring.proofs.Filled.{filled_next, filled_whole, read_image}
use Rattle.mlu_ext.proofs.coefficients.column.Goals as goal

pub loop-k-preserved : goal.loop-k-preserved
loop-k-preserved g c =
    let zero = g.R.Additive.ring.zero in
    let list = g.E.Coefficients.list in
    let long = c.loop-k.invariant.long in
    let elements = c.args.elements.now in
    let in_lanes : c.loop-k.k < length c.loop-k.lanes = omega (arith, long) in
    let in_elements : c.loop-k.k < length elements = omega (arith, c.requires.width) in
    record {
      long = rw length-set long;
      filled = filled_next zero c.loop-k.lanes (column_of zero list elements c.args.c) c.loop-k.k c.at.result in_lanes c.loop-k.invariant.filled
          (c.at.ensures zero ∙ read_image (λ x. get_or (list x) c.args.c zero) elements c.loop-k.k c.index-elements-k.result zero in_elements c.index-elements-k.is);
    }

pub returns : goal.returns
returns g c =
    let zero = g.R.Additive.ring.zero in
    let list = g.E.Coefficients.list in
    let long = c.loop-k.invariant.long in
    let elements = c.args.elements.now in
    let columns = length-map elements (λ x. get_or (list x) c.args.c zero) in
    c.from_array.ensures
    ∙ filled_whole zero c.loop-k.lanes (column_of zero list elements c.args.c) c.loop-k.k (omega (arith, long)) (omega (arith, long, columns, c.requires.width)) c.loop-k.invariant.filled
