use Rattle.std.proofs.Common.{◌∙◌, ◌<◌, length, subst, arith}
use Rattle.std.proofs.lemmas.List.{length-set}
use Rattle.mlu_ring.specs.Lanes.{IsLists}
use Rattle.mlu_eq.proofs.Constants.{constants-more}
use Rattle.mlu_eq.proofs.split.constants.read_constants.Goals as goal

pub loop-i-preserved : goal.loop-i-preserved
loop-i-preserved g c =
    let coefficients = g.EF.ExtensionField.coefficients in
    let of_coefficients = g.EF.ExtensionField.of_coefficients in
    let are = subst (λ n. IsLists n coefficients of_coefficients) c.requires.one g.met.EF.ExtensionField.coefficients_are in
    let was = c.loop-i.invariant in
    let in_column : c.loop-i.i < length c.loop-i.column = omega (arith, was.long, c.requires.long, c.loop-i-test.true) in
    let in_weights : c.loop-i.i < length c.args.weights.now = omega (arith, was.long, in_column) in
    record {
      long = length-set c.loop-i.column c.loop-i.i c.coefficient.result ∙ was.long;
      read = constants-more coefficients of_coefficients are c.loop-i.column c.args.weights.now c.loop-i.i c.index-weights-i.result c.coefficient.result
          in_column in_weights c.index-weights-i.is c.coefficient.ensures was.read;
    }
