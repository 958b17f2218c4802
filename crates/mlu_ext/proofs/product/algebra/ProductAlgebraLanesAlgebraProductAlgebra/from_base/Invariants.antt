-- Below c the entries are those of the element, in all lanes.
use Rattle.std.proofs.Common.{map}
use Rattle.mlu_lanes.specs.LaneRing.{splat}
use Rattle.mlu_ext.specs.Product.{entries_of}
use Rattle.mlu_ring.proofs.Filled.{IsFilled}
use Rattle.mlu_ext.proofs.product.algebra.ProductAlgebraLanesAlgebraProductAlgebra.from_base.Given as goal

abbrev pub invariant-loop-c : goal.invariant-loop-c
invariant-loop-c g l = IsFilled (splat g.row.W g.F.Additive.ring.zero) (entries_of l.packed) (map (splat g.row.W) (entries_of l.b)) l.c
