use Rattle.std.proofs.Common.{◌≡◌, length, ◌∙◌, arith, rules}
use Rattle.std.proofs.lemmas.Grind.{common_steps}
use Rattle.mlu_point.specs.Orders.{weights_by}
use Rattle.mlu_ring.proofs.PowersOfTwo.{exponent_fits}
use Rattle.mlu_point.proofs.Outputs.{written-back}
use Rattle.mlu_ring.proofs.Rings.{map-one}
use Rattle.mlu_point.proofs.point.chunks.weights_by_meter.Goals as goal

pub overflow_shl-coords : goal.overflow_shl-coords
overflow_shl-coords g c = exponent_fits (length c.args.coords.now) c.requires.fits

pub returns-clause-table : goal.returns-clause-table
returns-clause-table g c =
    let all : c.in_ok-table.table.len ≡ length c.fill_in_chunks.new.out = first_of (search rules, grind (arith, common_steps)) in
    written-back c.fill_in_chunks.new.out c.in_ok-table.table.items c.in_ok-table.table.len all
    ∙ c.in_ok-fill_in_chunks.ensures.table
    ∙ map-one g.F.Additive.ring g.met.F.Additive.laws c.ONE.result (weights_by c.args.order g.F.Additive.ring c.args.coords.now) (c.ONE.ensures ∙ g.met.F.Additive.one_is)
