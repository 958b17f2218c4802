use Rattle.std.proofs.Common.{◌≡◌, ◌∙◌, map, length, ap}
use Rattle.std.proofs.lemmas.List.{length-map}
use Rattle.mlu_ring.specs.Tables.{front, weights}
use Rattle.multilinear_util.specs.Compressions.{prefix_compressed, IsJoinedAfter}
use Rattle.multilinear_util.specs.Split.{split_entries}
use Rattle.multilinear_util.specs.Views.{entries}
use Rattle.multilinear_util.proofs.Outcomes.{ok_more}
use Rattle.multilinear_util.proofs.Scaled.{front-scaled, value-compressed_prefix}
use Rattle.multilinear_util.proofs.poly.view.PolyView.compress_prefix.Goals as goal

pub returns-clause-value : goal.returns-clause-value
returns-clause-value g c =
    let ring = g.EF.Additive.ring in
    let values = map g.EF.Algebra.embed (entries c.args.self.now) in
    ok_more (λ folded. folded ≡ front ring (split_entries ring c.in_ok-split.split) values) (λ folded. folded ≡ prefix_compressed ring c.args.scale c.args.point.now values)
    (λ folded is. is ∙ ap (λ w. front ring w values) c.in_ok-split.ensures.value ∙ front-scaled ring g.met.EF.Additive.laws c.args.scale (weights ring c.args.point.now) values)
    c.compress_prefix.result c.compress_prefix.ensures

pub returns-clause-joined : goal.returns-clause-joined
returns-clause-joined g c =
    let ring = g.EF.Additive.ring in
    let table = entries c.args.self.now in
    let values = map g.EF.Algebra.embed (entries c.args.self.now) in
    ok_more (λ folded. folded ≡ prefix_compressed ring c.args.scale c.args.point.now values) (IsJoinedAfter ring c.args.scale c.args.point.now (length table) values)
    (λ folded is rest size. value-compressed_prefix ring g.met.EF.Additive.laws c.args.scale values c.args.point.now rest folded is (length-map table g.EF.Algebra.embed ∙ size))
    c.compress_prefix.result (returns-clause-value g c)
