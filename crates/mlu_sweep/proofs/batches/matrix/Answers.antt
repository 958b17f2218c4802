use Rattle.std.proofs.Common.{length, refl, ap, ◌∙◌}
use Rattle.mlu_ring.proofs.Rows.{rows_of-multiple}
use Rattle.mlu_point.proofs.Sizes.{places-of_rows}
use Rattle.mlu_sweep.proofs.Products.{chunks_fit}
use Rattle.mlu_sweep.proofs.batches.matrix.Goals as goal

pub new-requires : goal.new-requires
new-requires g c = rows_of-multiple _ c.args.variables c.args.points c.requires.values

pub returns-clause-size : goal.returns-clause-size
returns-clause-size g c =
    places-of_rows _ _ _ c.args.variables c.args.points (ap length c.new.ensures.values ∙ c.requires.values) refl c.requires.places

pub returns-clause-chunks : goal.returns-clause-chunks
returns-clause-chunks g c =
    chunks_fit _ c.args.variables c.args.points c.args.log_chunks (ap length c.new.ensures.values ∙ c.requires.values) c.requires.chunks
