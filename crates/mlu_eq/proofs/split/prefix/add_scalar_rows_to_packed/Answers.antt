use Rattle.std.proofs.Common.{◌*◌, ◌∷◌, [], ◌∙◌, map, length, ap, sym, arith}
use Rattle.std.proofs.lemmas.List.{get_or_default, length-map, take_all}
use Rattle.mlu_ring.specs.Lanes.{logical}
use Rattle.mlu_ring.proofs.Logical.{length-logical}
use Rattle.mlu_ring.proofs.Pairs.{read-map}
use Rattle.mlu_kernel.specs.Kernels.{plus_rows}
use Rattle.mlu_kernel.proofs.PlusRows.{plus_rows-none, plus_rows-take_more}
use Rattle.mlu_eq.proofs.RowsMapped.{row-map}
use Rattle.mlu_eq.proofs.split.prefix.add_scalar_rows_to_packed.Goals as goal

pub loop-i-init : goal.loop-i-init
loop-i-init g c =
    let old = logical g.EF.ExtensionPacking.PackedFieldExtension.ext_lanes c.args.out.now in
    sym (plus_rows-none g.EF.Additive.ring g.met.EF.Additive.laws old [] (map g.EF.Algebra.embed c.args.rows.now) (omega arith))

pub loop-i-preserved : goal.loop-i-preserved
loop-i-preserved g c =
    let ring = g.EF.Additive.ring in
    let embed = g.EF.Algebra.embed in
    let lanes = g.EF.ExtensionPacking.PackedFieldExtension.ext_lanes in
    let n = g.F.Packing.PackedValue.WIDTH in
    let times = ring.product c.args.factor in
    let r = length c.args.out.now * n in
    let x = c.index-weights-i.result in
    let long = length-map c.args.weights.now (ring.product c.args.factor) in
    let between = logical lanes c.loop-i.out in
    let multiplied = g.met.EF.PrimeCharacteristicRing.multiplies c.args.factor x c.mul.result c.mul.ensures in
    let size = length-logical lanes n g.met.EF.ExtensionPacking.PackedFieldExtension.lanes_are.length-parts c.args.out.now in
    c.add_row_times.ensures
    ∙ ap (λ row. plus_rows ring between (c.mul.result ∷ []) row) (row-map embed c.args.rows.now c.row_of-row.result.now r c.loop-i.i (c.row_of-row.ensures.exact r c.requires))
    ∙ plus_rows-take_more ring g.met.EF.Additive.laws (logical lanes c.args.out.now) (map times c.args.weights.now) (map embed c.args.rows.now) between c.loop-i.i r c.mul.result
    (omega (arith, long, c.loop-i-test.true)) size
    (multiplied ∙ read-map times c.args.weights.now c.loop-i.i x c.index-weights-i.is ∙ get_or_default (map times c.args.weights.now) c.loop-i.i (times x) c.mul.result (omega (arith, long, c.loop-i-test.true)))
    c.loop-i.invariant

pub returns : goal.returns
returns g c =
    let ring = g.EF.Additive.ring in
    let old = logical g.EF.ExtensionPacking.PackedFieldExtension.ext_lanes c.args.out.now in
    let w = map (ring.product c.args.factor) c.args.weights.now in
    let long = length-map c.args.weights.now (ring.product c.args.factor) in
    c.loop-i.invariant
    ∙ ap (λ v. plus_rows ring old v (map g.EF.Algebra.embed c.args.rows.now)) (take_all c.loop-i.i w (omega (arith, long, c.loop-i-test.false)))
