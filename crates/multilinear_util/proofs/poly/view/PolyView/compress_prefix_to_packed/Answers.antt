use Rattle.std.proofs.Common.{◌∙◌, map, ap}
use Rattle.mlu_ring.specs.Tables.{front, weights}
use Rattle.multilinear_util.specs.Compressions.{prefix_compressed, Holds}
use Rattle.multilinear_util.specs.Split.{split_entries}
use Rattle.multilinear_util.specs.Views.{entries}
use Rattle.multilinear_util.proofs.Outcomes.{ok_more}
use Rattle.multilinear_util.proofs.Scaled.{front-scaled}
use Rattle.multilinear_util.proofs.poly.view.PolyView.compress_prefix_to_packed.Goals as goal

pub returns : goal.returns
returns g c =
    let ring = g.EF.Additive.ring in
    let values = map g.EF.Algebra.embed (entries c.args.self.now) in
    let lanes = g.EF.ExtensionPacking.PackedFieldExtension.ext_lanes in
    ok_more (Holds lanes (front ring (split_entries ring c.in_ok-split.split) values)) (Holds lanes (prefix_compressed ring c.args.scale c.args.point.now values))
    (λ folded is. is ∙ ap (λ w. front ring w values) c.in_ok-split.ensures.value ∙ front-scaled ring g.met.EF.Additive.laws c.args.scale (weights ring c.args.point.now) values)
    c.compress_prefix_to_packed.result c.compress_prefix_to_packed.ensures
