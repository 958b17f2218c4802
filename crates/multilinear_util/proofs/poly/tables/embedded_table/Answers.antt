use Rattle.std.proofs.Common.{◌≡◌, ◌^◌, ◌∙◌, map, length, ap, rules}
use Rattle.std.proofs.lemmas.List.{length-map}
use Rattle.mlu_ring.specs.Tables.{weights}
use Rattle.mlu_ring.proofs.Joined.{length-weights}
use Rattle.mlu_ring.proofs.PowersOfTwo.{is_power_of_two-power}
use Rattle.multilinear_util.proofs.poly.tables.embedded_table.Goals as goal

pub new-requires : goal.new-requires
new-requires g c =
    let ring = g.R.Additive.ring in
    let embed = g.R.Algebra.embed in
    let point = c.args.point.now in
    let made : c.append_table.new.table.items ≡ map (g.R.Additive.ring.product c.args.scale) (weights g.R.Additive.ring (map g.R.Algebra.embed c.args.point.now)) = search rules in
    is_power_of_two-power (length c.append_table.new.table.items) (length point)
    (ap length made
    ∙ length-map (weights ring (map embed point)) (ring.product c.args.scale)
    ∙ length-weights ring (map embed point)
    ∙ ap (λ n. 2 ^ n) (length-map point embed))
