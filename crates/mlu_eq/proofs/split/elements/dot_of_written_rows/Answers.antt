use Rattle.std.proofs.Common.{◌*◌, ◌≤◌, ◌∙◌, [], length, replicate, refl, ap, sym, subst}
use Rattle.std.proofs.lemmas.List.{length-replicate, length-take-le}
use Rattle.mlu_ring.specs.Lanes.{logical}
use Rattle.mlu_ring.specs.Tables.{pair}
use Rattle.mlu_kernel.proofs.DoubleSums.{double_sum-none, double_sum_step}
use Rattle.mlu_eq.specs.declared.split.elements.TheConstants.{MOST_ELEMENTS}
use Rattle.mlu_eq.proofs.Products.{logical-block}
use Rattle.mlu_eq.proofs.split.elements.dot_of_written_rows.Goals as goal

pub loop-j-init : goal.loop-j-init
loop-j-init g c =
    let w = c.args.weights.now in
    let lanes = g.EF.ExtensionPacking.PackedFieldExtension.ext_lanes in
    let places = replicate MOST_ELEMENTS c.ZERO-places.result in
    let within : length w ≤ length places =
    subst (λ m. length w ≤ m) (sym (length-replicate MOST_ELEMENTS c.ZERO-places.result)) (subst (λ m. m ≤ MOST_ELEMENTS) (sym c.requires.long) c.requires.few.0) in
    record {
      long = length-take-le (length w) places within;
      dot = c.ZERO-sum.ensures ∙ g.met.EF.Additive.zero_is
          ∙ sym (double_sum-none g.EF.Additive.ring g.met.EF.Additive.laws [] w (logical lanes c.args.entries.now) refl);
    }

pub loop-j-preserved : goal.loop-j-preserved
loop-j-preserved g c =
    let ring = g.EF.Additive.ring in
    let packed = g.EF.ExtensionPacking.PackedFieldExtension in
    let met = g.met.EF.ExtensionPacking.PackedFieldExtension in
    let n = g.F.Packing.PackedValue.WIDTH in
    let width = c.args.width in
    let w = c.args.weights.now in
    let entries = c.args.entries.now in
    let row = c.unpack_into.ensures
    ∙ ap (logical packed.ext_lanes) (c.row_of.ensures.exact width c.requires.size)
    ∙ logical-block packed.ext_lanes n met.lanes_are.length-parts entries c.loop-j.j width in
    record {
      long = c.unpack_into.auto.out ∙ c.loop-j.invariant.long;
      dot =
          g.met.EF.Additive.adds c.loop-j.sum c.mul.result c.add-sum.result c.add-sum.ensures
          ∙ ap (ring.sum c.loop-j.sum) (g.met.EF.PrimeCharacteristicRing.multiplies c.index-eq0-j.result c.dot.result c.mul.result c.mul.ensures)
          ∙ double_sum_step ring g.met.EF.Additive.laws c.args.eq0.now w (logical packed.ext_lanes entries) c.loop-j.j (width * n) c.index-eq0-j.result c.loop-j.sum c.dot.result
          c.loop-j-test.true (sym c.requires.long) c.index-eq0-j.is (c.dot.ensures ∙ ap (pair ring w) row) c.loop-j.invariant.dot;
    }
