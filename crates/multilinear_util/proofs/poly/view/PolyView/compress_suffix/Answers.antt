use Rattle.std.proofs.Common.{◌≡◌, ◌∙◌, map, length, ap}
use Rattle.std.proofs.lemmas.List.{length-map}
use Rattle.mlu_ring.specs.Tables.{back, weights}
use Rattle.multilinear_util.specs.Compressions.{suffix_compressed, IsJoinedBefore}
use Rattle.multilinear_util.specs.Split.{split_entries}
use Rattle.multilinear_util.specs.Views.{entries}
use Rattle.multilinear_util.proofs.Outcomes.{ok_more}
use Rattle.multilinear_util.proofs.Scaled.{back-scaled, value-compressed_suffix}
use Rattle.multilinear_util.proofs.poly.view.PolyView.compress_suffix.Goals as goal

pub returns-clause-value : goal.returns-clause-value
returns-clause-value g c =
    let ring = g.EF.Additive.ring in
    let values = map g.EF.Algebra.embed (entries c.args.self.now) in
    ok_more (λ folded. folded ≡ back ring (split_entries ring c.in_ok-split.split) values) (λ folded. folded ≡ suffix_compressed ring c.args.scale c.args.point.now values)
    (λ folded is. is ∙ ap (λ w. back ring w values) c.in_ok-split.ensures.value ∙ back-scaled ring g.met.EF.Additive.laws c.args.scale (weights ring c.args.point.now) values)
    c.compress_suffix.result c.compress_suffix.ensures

pub returns-clause-joined : goal.returns-clause-joined
returns-clause-joined g c =
    let ring = g.EF.Additive.ring in
    let table = entries c.args.self.now in
    let values = map g.EF.Algebra.embed (entries c.args.self.now) in
    ok_more (λ folded. folded ≡ suffix_compressed ring c.args.scale c.args.point.now values) (IsJoinedBefore ring c.args.scale c.args.point.now (length table) values)
    (λ folded is rest size. value-compressed_suffix ring g.met.EF.Additive.laws c.args.scale values rest c.args.point.now folded is (length-map table g.EF.Algebra.embed ∙ size))
    c.compress_suffix.result (returns-clause-value g c)
