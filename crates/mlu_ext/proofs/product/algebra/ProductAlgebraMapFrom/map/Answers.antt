-- The image has x in every entry.
use Rattle.mlu_ext.specs.Product.{same_entries, diagonal}
use Rattle.mlu_ext.proofs.product.algebra.ProductAlgebraMapFrom.map.Goals as goal

pub returns : goal.returns
returns g c = same_entries g.row.D c.from_array.result (diagonal g.row.D c.args.x) c.from_array.ensures
