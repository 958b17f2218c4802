use Rattle.std.proofs.Common.{◌≡◌, ◌∙◌, ◌++◌, length, take, drop, ap, arith, rules}
use Rattle.std.proofs.Math.Seq.{take-append_seam}
use Rattle.std.proofs.lemmas.Grind.{common_steps}
use Rattle.mlu_ring.specs.Tables.{weights}
use Rattle.mlu_point.specs.Rules.{next_by}
use Rattle.mlu_ring.proofs.Rings.{map-one}
use Rattle.multilinear_util.proofs.poly.Poly.new_next_from_point_by.Goals as goal

pub returns : goal.returns
returns g c =
    let ring = g.F.Additive.ring in
    let new = c.move_to_next.new.weights in
    let old = c.in_ok-table.table in
    let long : length old ≡ length new = first_of (search rules, grind (arith, common_steps)) in
    ap (λ m. take m (new ++ drop (length new) old)) long
    ∙ take-append_seam new (drop (length new) old)
    ∙ c.move_to_next.ensures
    ∙ ap (next_by c.args.rule ring) (c.as_mut_slice.ensures.value ∙ c.in_ok-table.ensures ∙ map-one ring g.met.F.Additive.laws c.ONE.result (weights ring c.args.point.now) (c.ONE.ensures ∙ g.met.F.Additive.one_is))
