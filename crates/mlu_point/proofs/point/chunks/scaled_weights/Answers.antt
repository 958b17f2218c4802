use Rattle.std.proofs.Common.{◌≡◌, ◌∙◌, length, arith, rules}
use Rattle.std.proofs.lemmas.Grind.{common_steps}
use Rattle.mlu_ring.proofs.PowersOfTwo.{exponent_fits}
use Rattle.mlu_point.proofs.Outputs.{written-back}
use Rattle.mlu_point.proofs.point.chunks.scaled_weights.Goals as goal

pub overflow_shl-coords : goal.overflow_shl-coords
overflow_shl-coords g c = exponent_fits (length c.args.coords.now) c.requires

pub returns-clause-table : goal.returns-clause-table
returns-clause-table g c =
    let all : c.in_ok-table.table.len ≡ length c.fill_by_meter.new.out = first_of (search rules, grind (arith, common_steps)) in
    written-back c.fill_by_meter.new.out c.in_ok-table.table.items c.in_ok-table.table.len all ∙ c.fill_by_meter.ensures.table
