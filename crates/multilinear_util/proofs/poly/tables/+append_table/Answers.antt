use Rattle.std.proofs.Common.{◌≡◌, ◌∷◌, ◌∙◌, map, length, ap, rules}
use Rattle.std.proofs.lemmas.List.{length-map}
use Rattle.mlu_point.specs.declared.point.order.BitOrder.TheVariants.{Msb}
use Rattle.mlu_point.proofs.Tables.{table-doubled}
use Rattle.multilinear_util.proofs.Shares.{one_weight}
use Rattle.multilinear_util.proofs.poly.tables.+append_table.Goals as goal

pub returns-in_ok-push-in-None : goal.returns-in_ok-push-in-None
returns-in_ok-push-in-None g t c =
    let embed = g.R.Algebra.embed in
    let none : length c.args.point.now ≡ 0 = search rules in
    c.in_ok-push-in-None.ensures.items
    ∙ one_weight g.R.Additive.ring g.met.R.Additive.laws c.args.scale c.args.table.now.items (map embed c.args.point.now) c.requires (length-map c.args.point.now embed ∙ none)

pub returns-in_ok-append_shares-in-Some : goal.returns-in_ok-append_shares-in-Some
returns-in_ok-append_shares-in-Some g t c =
    let ring = g.R.Additive.ring in
    let embed = g.R.Algebra.embed in
    let coordinate = c.in-Some.coordinate.now in
    let others = c.in-Some.others.now in
    let whole : c.args.point.now ≡ c.in-Some.coordinate.now ∷ c.in-Some.others.now = search rules in
    c.in_ok-append_shares-in-Some.ensures
    ∙ table-doubled ring g.met.R.Additive.laws Msb c.args.scale (embed coordinate) (map embed others) c.append_table.new.table.items (map embed c.args.point.now)
    (ap (map embed) whole) c.in_ok-append_table-in-Some.ensures
